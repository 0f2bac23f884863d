-- Each: loops that change a buffer. Columns: columns of the rows. Writes: what the loops write.
pub mod Each
pub mod Columns
pub mod Writes
