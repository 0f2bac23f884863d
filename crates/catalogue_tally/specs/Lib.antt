-- The figures of a catalogue.
pub mod Outcome
pub mod Figures
