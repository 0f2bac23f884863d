-- Steps: one component is settled. Ranks: all components, from the last ones backward. Made: the promise for every input.
pub mod Steps
pub mod Ranks
pub mod Made
