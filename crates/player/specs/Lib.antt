-- What the contracts of the player cite, and its runs.
pub mod Player
pub mod Runs
