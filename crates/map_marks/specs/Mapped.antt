-- The answer of a call that writes a map: nothing where it is made, else the refusal.
use Rattle.std.specs.Prelude.{Result}
use Rattle.std.specs.declared.result.Result.TheVariants.{Ok}
use Rattle.game.specs.declared.Refusal.{Refusal}

abbrev pub Mapped : Type 0
Mapped = Result (Unit {0}) Refusal

abbrev pub made : Mapped
made = Ok tt
