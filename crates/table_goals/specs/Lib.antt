-- The counters of a tour, for both sides.
pub mod Goal
pub mod Ranges
