-- Laws of homes.
pub mod Meaning
