-- Laws of replies to next inputs.
pub mod Answers
pub mod Meaning
