-- The names of a list.
pub mod Names
pub mod Keeping
