-- The play, told of walks alone, in document 01's order.
pub mod Arena
pub mod Table
pub mod Play
pub mod Win
pub mod Stopped
pub mod Bounds
