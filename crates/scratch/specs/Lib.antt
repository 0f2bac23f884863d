-- Scratch: what it holds, how long it is, and what is left in it.
pub mod Scratch
pub mod Stored
pub mod Areas
