-- Bars: what is barred. Answers: what the entries answer, case by case.
pub mod Bars
pub mod Answers
