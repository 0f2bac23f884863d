-- Laws of the filling of the environment's table.
pub mod Places
pub mod Laid
pub mod Known
pub mod Reading
pub mod Outward
pub mod Toured
pub mod Walked
pub mod Filling
