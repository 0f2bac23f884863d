-- How many bytes a text has that was written, or the refusal.
use Rattle.std.specs.Prelude.{ℕ, Result}
use Rattle.game.specs.declared.Refusal.{Refusal}

abbrev pub WriteAnswer : Type 0
WriteAnswer = Result ℕ Refusal
