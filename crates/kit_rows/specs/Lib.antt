-- Rows: the kit's table. Writing: what the functions that write it read and write.
pub mod Rows
pub mod Writing
