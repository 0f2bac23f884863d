-- Homes, told from scratch.
pub mod Homes
