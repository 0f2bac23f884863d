-- Laws of the test.
pub mod Parts
pub mod Firsts
pub mod Game
