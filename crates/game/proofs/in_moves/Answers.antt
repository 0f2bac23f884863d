-- `in_moves` reads a row.
use mathlib.Core.Path.{ap}
use Rattle.sets.specs.declared.Set.{Set}
use Rattle.game.specs.declared.InSet.{InSet}
use Rattle.game.proofs.in_moves.Goals as goal

made : Set → InSet
made x = record { 0 = x }

pub returns : goal.returns
unfolding made
returns c = ap made c.row_of.ensures.0
