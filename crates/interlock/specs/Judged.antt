-- The verdict with bars, or the refusal.
use Rattle.std.specs.Prelude.{Result}
use Rattle.game.specs.declared.Refusal.{Refusal}
use Rattle.interlock.specs.declared.Side.{Side}

abbrev pub Judged : Type 0
Judged = Result Side Refusal
