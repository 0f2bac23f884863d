-- What the functions of the region cite.
pub mod Fill
