-- Laws for the rows past the count of states.
pub mod Past
