-- Staying: a play kept by a table that follows the rows, while the input stays in one component. Waiting: the right to wait of accepted games.
pub mod Staying
pub mod Waiting
