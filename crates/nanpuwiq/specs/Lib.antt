-- What the entries for other languages promise.
pub mod Calls
