-- Entries written in columns and blocks.
pub mod Column
pub mod Scattering
