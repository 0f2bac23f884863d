-- A map of won positions.
pub mod Mapped
pub mod Marks
pub mod Answer
