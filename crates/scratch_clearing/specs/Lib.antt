-- How a buffer is left.
pub mod Clearing
