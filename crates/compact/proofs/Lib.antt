-- Ranks, reading and writing both layouts, moving between them, demand 3 of the compact one, and an example.
pub mod Rank
pub mod Lists
pub mod Compact
pub mod Entries
pub mod Tests
pub mod Moving
pub mod Numbers
pub mod Same
pub mod Outcome
pub mod Claims
pub mod Example
