-- Rows: whole sets of positions, row by row. Merging: rows to which others are added, or of which others are kept.
pub mod Rows
pub mod Merging
