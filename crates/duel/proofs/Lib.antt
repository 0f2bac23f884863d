-- Both sides cannot win.
pub mod Joint
pub mod Match
pub mod Duel
pub mod Examples
pub mod Blind
