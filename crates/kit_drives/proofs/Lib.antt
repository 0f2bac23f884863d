-- Laws of drives and kits.
pub mod Moves
pub mod Acceptance
