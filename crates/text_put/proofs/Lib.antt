pub mod Buffer
pub mod Lowest
pub mod Pieces
pub mod Bounds
pub mod Lengths
