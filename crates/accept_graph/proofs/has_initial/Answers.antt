-- `has_initial` is its definition.
use mathlib.Core.Path.{ap}
use mathlib.Core.Bool.{not}
use Rattle.game.specs.Acceptance.{has_initial}
use Rattle.accept_graph.proofs.has_initial.Goals as goal

pub returns : goal.returns
unfolding has_initial
returns c = ap not c.is_empty.ensures
