pub mod Text
pub mod Shape
