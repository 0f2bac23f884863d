-- What the search for a component finds, and ranks in a list.
pub mod Search
pub mod Ranks
