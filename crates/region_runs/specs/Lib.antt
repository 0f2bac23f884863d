-- Runs of inputs with the same row.
pub mod Runs
