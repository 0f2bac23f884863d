pub mod WriteAnswer
pub mod Reading
pub mod Read
pub mod Write
pub mod OneText
