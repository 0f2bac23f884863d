-- Replies to next inputs.
pub mod Replies
