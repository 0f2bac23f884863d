-- What a kit is for.
pub mod Exchange
