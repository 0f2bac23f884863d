-- Graphs and walks.
pub mod Walk
pub mod Graph
pub mod Rows
pub mod Closure
pub mod Component
pub mod Way
