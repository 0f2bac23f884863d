-- Laws of a kit's table.
pub mod Commands
pub mod Turns
pub mod Exchange
