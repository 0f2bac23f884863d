-- Times: stretches of time, and a sequence of finitely many values that comes back. Rounds: the rounds along a play that never ends. Endless: along
-- such a play a winning controller meets every requirement.
pub mod Times
pub mod Rounds
pub mod Endless
