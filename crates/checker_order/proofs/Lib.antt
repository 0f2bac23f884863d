-- Laws for the order.
pub mod Bounds
