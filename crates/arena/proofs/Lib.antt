-- Laws of the play, and theorems that pin its definitions on small games.
pub mod Bounds
pub mod Meets
pub mod Reach
pub mod Sets
pub mod Answers
pub mod Eight
pub mod Line
pub mod Fork
pub mod Echo
pub mod Nones
pub mod Left
pub mod Demand
pub mod From
pub mod Rest
pub mod Wins
pub mod Stopped
