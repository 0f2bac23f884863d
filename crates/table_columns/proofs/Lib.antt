-- Laws of columns, of rows and of blocks.
pub mod Columns
pub mod Rows
pub mod Fronts
pub mod Blocks
