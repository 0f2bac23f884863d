-- What the rows past the count of states come to.
pub mod Past
