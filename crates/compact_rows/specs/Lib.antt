-- What the functions that copy a table read and write.
pub mod Copying
