-- `replies` meets its contract.
use mathlib.Core.Path.{ap}
use Rattle.sets.specs.declared.Set.{Set}
use Rattle.game.specs.declared.OutSet.{OutSet}
use Rattle.checker_rows.proofs.replies.Goals as goal

as-outputs : Set → OutSet
as-outputs x = record { 0 = x }

pub returns : goal.returns
unfolding as-outputs
returns c = ap as-outputs c.row_of.ensures.0
