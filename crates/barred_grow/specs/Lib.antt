-- What is reached, step by step.
pub mod Grow
