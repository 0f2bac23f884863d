-- Laws for the position.
pub mod Tests
pub mod Moves
