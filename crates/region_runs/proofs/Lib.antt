-- Laws of runs.
pub mod Runs
