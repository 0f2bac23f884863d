-- Kept: moves inside a set, for callers. Round: one round of the search. Passing: states that it passes over. Levels: all rounds, for any search that
-- goes so. Narrow: ways inside a set that none leaves.
pub mod Kept
pub mod Round
pub mod Passing
pub mod Levels
pub mod Narrow
