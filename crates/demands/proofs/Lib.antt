-- Demands 2 and 3 of every accepted game.
pub mod Sizes
pub mod Demands
