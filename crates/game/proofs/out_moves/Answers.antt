-- `out_moves` reads a row.
use mathlib.Core.Path.{ap}
use Rattle.sets.specs.declared.Set.{Set}
use Rattle.game.specs.declared.OutSet.{OutSet}
use Rattle.game.proofs.out_moves.Goals as goal

made : Set → OutSet
made x = record { 0 = x }

pub returns : goal.returns
unfolding made
returns c = ap made c.row_of.ensures.0
