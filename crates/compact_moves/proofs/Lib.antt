-- Laws of the moves.
pub mod Answers
pub mod Written
