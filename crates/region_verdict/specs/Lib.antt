-- Whether the system can begin.
pub mod Opens
