-- Buffers filled in any order.
pub mod Grows
