-- Laws of a tour's counters, and of its steps in words.
pub mod Goal
pub mod Aims
pub mod Tours
pub mod Ranges
