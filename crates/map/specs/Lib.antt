-- What the map promises.
pub mod Map
