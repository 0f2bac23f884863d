-- Laws of the reader.
pub mod Rows
