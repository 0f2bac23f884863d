-- The side that wins, with the length of its table, or the refusal.
use Rattle.std.specs.Prelude.{Result}
use Rattle.game.specs.declared.Refusal.{Refusal}
use Rattle.solver.specs.declared.Winner.{Winner}

abbrev pub Verdict : Type 0
Verdict = Result Winner Refusal
