-- What the duel speaks of, beside the play.
pub mod Beats
