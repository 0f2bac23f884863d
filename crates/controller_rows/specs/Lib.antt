-- What the contracts of the writing functions cite.
pub mod Each
pub mod Writes
