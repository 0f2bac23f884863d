-- What the checker finds, or the refusal.
use Rattle.std.specs.Prelude.{Result}
use Rattle.game.specs.declared.Refusal.{Refusal}
use Rattle.checker.specs.declared.Finding.{Finding}

abbrev pub Checked : Type 0
Checked = Result Finding Refusal
