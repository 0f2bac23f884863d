-- What the functions here cite.
pub mod Gates
