-- Document 01's choices as executable definitions, in its order.
pub mod Region
pub mod Tour
pub mod Choice
pub mod Entries
