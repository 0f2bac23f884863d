-- Words: sets of joined positions in scratch. Rows: rows that are followed. Counting: how many positions are found.
pub mod Words
pub mod Rows
pub mod Counting
