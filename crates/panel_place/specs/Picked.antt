-- The panel's move, or the refusal.
use Rattle.std.specs.Prelude.{Result}
use Rattle.game.specs.declared.Refusal.{Refusal}
use Rattle.panel_place.specs.declared.PanelMove.{PanelMove}

abbrev pub Picked : Type 0
Picked = Result PanelMove Refusal
