-- The cases, proved.
pub mod Cases
