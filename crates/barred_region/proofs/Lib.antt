-- Widening: what is reached. Trimming: what is kept and can go on for ever. Settling: output set after output set. Keeping: the winning region.
pub mod Among
pub mod Widening
pub mod Trimming
pub mod Settling
pub mod Keeping
