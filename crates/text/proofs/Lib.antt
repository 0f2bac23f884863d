pub mod Reader
pub mod Arrays
pub mod OneText
pub mod Writer
