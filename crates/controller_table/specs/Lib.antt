-- The controller's table while it is filled.
pub mod Filled
