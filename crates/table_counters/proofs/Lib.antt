-- Laws of sets of counters.
pub mod Highest
