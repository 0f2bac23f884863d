-- Laws of the searches.
pub mod Turns
pub mod Grow
pub mod Ways
