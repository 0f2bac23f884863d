-- What the search for a position's ground cites.
pub mod Asked
pub mod Told
