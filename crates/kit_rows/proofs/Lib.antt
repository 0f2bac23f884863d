-- Search: the lowest commands. Blocks: entries written one after the other. Kits: what belongs where.
pub mod Search
pub mod Blocks
pub mod Kits
pub mod Cleared
