-- Laws for the search of a ground.
pub mod Search
pub mod Meaning
pub mod Requirements
pub mod Told
