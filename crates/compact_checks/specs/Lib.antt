-- What the contracts of the test cite.
pub mod Parts
pub mod Firsts
