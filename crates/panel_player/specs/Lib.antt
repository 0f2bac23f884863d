-- What the contracts of the panel's table cite, and the plays against it.
pub mod Panel
pub mod Plays
