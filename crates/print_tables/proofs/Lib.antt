pub mod Examples
pub mod Fits
pub mod Print
pub mod Room
