-- Laws for the call that explains a position.
pub mod Made
