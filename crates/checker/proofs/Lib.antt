-- Laws for the checker.
pub mod Made
pub mod Shown
