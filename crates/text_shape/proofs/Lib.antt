pub mod Members
pub mod Fill
pub mod SetLists
pub mod LineTexts
pub mod Graphs
pub mod Shape
pub mod Opening
pub mod WordTable
