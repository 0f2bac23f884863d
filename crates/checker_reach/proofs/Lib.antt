-- Laws of what a table reaches.
pub mod Opening
pub mod Gaps
