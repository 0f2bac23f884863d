pub mod Splitting
pub mod Keeping
pub mod Cut
