pub mod Format
pub mod Marks
pub mod Number
pub mod Place
