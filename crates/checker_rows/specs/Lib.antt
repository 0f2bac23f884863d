-- A table as places.
pub mod Rows
