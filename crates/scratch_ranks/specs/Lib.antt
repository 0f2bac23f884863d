-- What the walk through the inputs has met, and the ranks that it has written.
pub mod Passed
