-- Entries: what stands in an entry. Made: the promise for every input.
pub mod Entries
pub mod Made
