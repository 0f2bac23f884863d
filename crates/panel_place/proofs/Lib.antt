-- Laws for the panel's move.
pub mod Picks
