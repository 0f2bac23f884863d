-- The sets of a game's requirements in one list.
pub mod Lists
