-- What two recordings come to, or the refusal.
use Rattle.std.specs.Prelude.{Result}
use Rattle.game.specs.declared.Refusal.{Refusal}
use Rattle.recorder.specs.declared.Comparison.{Comparison}

abbrev pub Compared : Type 0
Compared = Result Comparison Refusal
