-- Laws of a buffer that is cleared from the front.
pub mod Clearing
