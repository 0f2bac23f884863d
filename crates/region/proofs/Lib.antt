-- Laws of the region in scratch.
pub mod Board
pub mod Parts
