-- `assumption`: the place of the set is in the board.
use mathlib.Core.Path.{◌∙◌}
use native.Mathlib.Omega.{arith}
use Rattle.board.proofs.Read.{room, assumption_at_lem}
use Rattle.board.proofs.assumption.Goals as goal

pub row-requires : goal.row-requires
row-requires c = omega (arith, room c.args.b.now c.row-arg-1.given)

pub returns : goal.returns
returns c = c.row.ensures ∙ assumption_at_lem _ _ _ c.requires.1
