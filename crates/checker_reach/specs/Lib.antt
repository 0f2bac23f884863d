-- What a table reaches.
pub mod Reach
