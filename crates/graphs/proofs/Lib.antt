-- Laws of graphs and walks.
pub mod Walk
pub mod Measure
pub mod Level
pub mod Graph
pub mod Rows
pub mod Front
pub mod Closure
pub mod Component
pub mod Way
