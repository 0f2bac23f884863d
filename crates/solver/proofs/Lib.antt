-- Verdicts: the promise for every input.
pub mod Verdicts
pub mod Compact
