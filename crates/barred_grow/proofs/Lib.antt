-- Rows: single rows of what is reached. Growing: what is reached, input after input.
pub mod Rows
pub mod Growing
