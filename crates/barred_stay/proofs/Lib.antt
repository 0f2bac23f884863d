-- Rows: single rows. Staying: where the controller can stay, input after input.
pub mod Rows
pub mod Staying
