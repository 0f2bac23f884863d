-- What the checker promises, and what its steps do.
pub mod Checked
pub mod Check
pub mod Steps
