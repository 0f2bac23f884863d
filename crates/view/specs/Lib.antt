-- What the contracts of the view cite.
pub mod Rows
