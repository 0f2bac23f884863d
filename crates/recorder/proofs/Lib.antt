-- Laws of two recordings.
pub mod Steps
