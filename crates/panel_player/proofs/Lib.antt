-- Laws of the panel's table played against.
pub mod Answers
pub mod Inverse
pub mod Plays
