-- What one file of a catalogue comes to.
pub mod Judged
