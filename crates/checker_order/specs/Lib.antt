-- What the order in which places are tried promises.
pub mod Picks
