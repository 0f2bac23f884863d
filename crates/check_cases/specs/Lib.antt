-- The cases of document 01, "Drives to try", that are to be proved.
pub mod Bytes
pub mod Cases
