-- What the contract of the reader cites.
pub mod Rows
