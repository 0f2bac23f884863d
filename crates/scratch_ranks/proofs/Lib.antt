-- Laws of the way up through the inputs.
pub mod First
pub mod Written
