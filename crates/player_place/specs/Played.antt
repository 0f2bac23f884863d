-- The position that is reached, or the refusal.
use Rattle.std.specs.Prelude.{Result}
use Rattle.game.specs.declared.Refusal.{Refusal}
use Rattle.player_place.specs.declared.Position.{Position}

abbrev pub Played : Type 0
Played = Result Position Refusal
