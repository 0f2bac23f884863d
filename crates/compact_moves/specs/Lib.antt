-- What the moves promise.
pub mod Move
pub mod Promise
