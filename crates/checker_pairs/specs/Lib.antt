-- Requirements and guarantees, one after the other.
pub mod Pairs
