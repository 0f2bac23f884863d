-- What the contracts of the position's tests cite.
pub mod Played
pub mod Place
