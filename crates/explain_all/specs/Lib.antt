-- What the call that explains all positions promises.
pub mod Entry
pub mod All
