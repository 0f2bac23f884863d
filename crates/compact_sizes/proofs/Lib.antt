-- Lengths by component.
pub mod Lengths
