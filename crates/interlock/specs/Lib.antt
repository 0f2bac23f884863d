-- The game with bars: what its two entries promise.
pub mod Judged
pub mod Bars
pub mod Interlock
