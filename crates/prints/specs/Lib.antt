-- What the solve program prints.
pub mod Prints
