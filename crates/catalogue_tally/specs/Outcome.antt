-- What a file comes to, or the refusal.
use Rattle.std.specs.Prelude.{Result}
use Rattle.game.specs.declared.Refusal.{Refusal}
use Rattle.catalogue_tally.specs.declared.Counted.{Counted}

abbrev pub Outcome : Type 0
Outcome = Result Counted Refusal
