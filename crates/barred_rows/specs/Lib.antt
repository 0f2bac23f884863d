-- Sets of positions in scratch.
pub mod Areas
