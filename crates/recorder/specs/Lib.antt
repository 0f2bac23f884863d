-- What two recordings show.
pub mod Compared
pub mod Recorded
