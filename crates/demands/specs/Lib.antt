-- What is demanded of an accepted game.
pub mod Demands
