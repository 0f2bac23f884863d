-- Plays that never end.
pub mod Endless
