-- What the solver promises. Compact: with the controller's rows by component.
pub mod Verdict
pub mod Promise
pub mod Compact
