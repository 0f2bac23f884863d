-- One component of the joined graph: which of its positions are won.
pub mod Settle
