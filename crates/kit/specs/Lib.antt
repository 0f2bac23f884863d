-- What the kit's solver promises.
pub mod Promise
pub mod Roomy
