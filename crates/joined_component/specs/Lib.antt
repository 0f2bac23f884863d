-- One component of the joined graph: its positions, and whether it is accepting.
pub mod Component
