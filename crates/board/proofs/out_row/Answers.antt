-- `out_row`: the row is in the board.
use mathlib.Core.Path.{◌∙◌}
use native.Mathlib.Omega.{arith}
use Rattle.board.proofs.Read.{room, out_row_at}
use Rattle.board.proofs.out_row.Goals as goal

pub row-requires : goal.row-requires
row-requires c = omega (arith, c.requires, room c.args.b.now c.row-arg-1.given)

pub returns : goal.returns
returns c = c.row.ensures ∙ out_row_at _ _ c.requires
