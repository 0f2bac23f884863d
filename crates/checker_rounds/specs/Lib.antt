-- Attempts at rounds.
pub mod Rounds
