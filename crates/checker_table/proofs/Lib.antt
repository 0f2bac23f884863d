-- Theorems, in the order in which they follow from each other.
pub mod Table
pub mod Wins
pub mod Findings
