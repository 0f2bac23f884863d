-- Sets of joined positions in scratch, and what a joined position reaches.
pub mod Words
pub mod Reach
