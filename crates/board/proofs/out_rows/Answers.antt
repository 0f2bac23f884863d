-- `out_rows` is the second part of the board.
use mathlib.Core.Path.{refl}
use Rattle.board.specs.Board.{out_rows}
use Rattle.board.proofs.Read.{rows_room, out_long}
use Rattle.board.proofs.out_rows.Goals as goal

pub returns : goal.returns
unfolding out_rows
returns c = (refl, rows_room _ (out_long c.args.b.now c.words-1.given))
