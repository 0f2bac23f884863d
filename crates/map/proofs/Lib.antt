-- Rows: the map's rows. Made: the promise for every input.
pub mod Rows
pub mod Made
