-- Laws for the counts.
pub mod Concat
pub mod Below
pub mod Numbered
pub mod Lengths
