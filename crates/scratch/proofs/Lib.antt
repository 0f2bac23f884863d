-- Laws of scratch.
pub mod Most
pub mod Areas
pub mod Read
pub mod Cleared
pub mod Narrow
