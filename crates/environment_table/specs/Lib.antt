-- What the filling of the environment's table cites.
pub mod Table
pub mod Reading
pub mod Pressing
pub mod Touring
