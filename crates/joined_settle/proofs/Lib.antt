-- Replies: what a position forces. Sweeping, Growth, Loss: the sweeps of a component. Whole: a component is settled.
pub mod Replies
pub mod Sweeping
pub mod Growth
pub mod Loss
pub mod Whole
