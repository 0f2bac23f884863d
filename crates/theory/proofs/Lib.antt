-- Theorems, in the order in which they follow from each other.
pub mod Region
pub mod Delay
pub mod Around
pub mod Tour
pub mod Loop
pub mod Sets
pub mod ControllerRow
pub mod Agree
pub mod Controller
pub mod EnvironmentRow
pub mod Stuck
pub mod Environment
pub mod Entries
pub mod Demands
