-- The layouts.
pub mod Sizes
