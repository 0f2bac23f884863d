-- Laws of requirements that are due or served in components.
pub mod Steps
pub mod Halves
pub mod Meaning
