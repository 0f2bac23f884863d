-- The winning region of the game with bars, in scratch.
pub mod Region
