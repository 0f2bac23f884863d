-- A game laid out in words.
pub mod Board
