-- What is said of drives and kits.
pub mod Drive
pub mod Acceptance
