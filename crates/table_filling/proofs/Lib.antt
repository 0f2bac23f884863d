-- Laws of buffers filled in any order.
pub mod Grows
