-- The order of the lecture's solver, and what its entry promises.
pub mod Order
pub mod Joined
