-- Laws for the player.
pub mod Answers
pub mod Inverse
pub mod Runs
