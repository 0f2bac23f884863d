-- Searches over places, told of lists.
pub mod Turns
pub mod Queues
