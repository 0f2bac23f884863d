-- What the contracts of the panel's move cite.
pub mod Picked
pub mod Picks
