-- The kit's answers, case by case, and its lengths.
pub mod Answers
pub mod Lengths
pub mod Handing
