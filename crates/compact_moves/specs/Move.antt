-- The answers: how many entries a move has written, how many components there are; or the refusal.
use Rattle.std.specs.Prelude.{ℕ, Result}
use Rattle.game.specs.declared.Refusal.{Refusal}

abbrev pub Move : Type 0
Move = Result ℕ Refusal

abbrev pub Count : Type 0
Count = Result ℕ Refusal
