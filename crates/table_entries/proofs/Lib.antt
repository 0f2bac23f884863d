-- Laws of entries.
pub mod Packed
