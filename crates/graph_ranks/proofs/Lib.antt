-- Laws of the search for a component, and of ranks in a list.
pub mod Search
pub mod Found
pub mod Ranks
pub mod Walk
