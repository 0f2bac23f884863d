-- What the catalogue program prints.
pub mod Catalogue
