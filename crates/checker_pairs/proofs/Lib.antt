-- Laws of the pairs.
pub mod Keeping
pub mod Emptying
pub mod Serving
