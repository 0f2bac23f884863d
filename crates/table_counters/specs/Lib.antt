-- What the contracts on sets of counters cite.
pub mod Counters
