-- The print of a catalogue's figures.
pub mod Figures
