-- What the call that explains a position promises.
pub mod Explain
