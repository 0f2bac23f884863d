-- `in_rows` is the first part of the board.
use mathlib.Core.Path.{refl, sym}
use Rattle.board.specs.Board.{in_rows}
use Rattle.board.proofs.Read.{rows_room, in_long}
use Rattle.board.proofs.in_rows.Goals as goal

pub slice_bounds-result-end : goal.slice_bounds-result-end
slice_bounds-result-end c = sym (in_long c.args.b.now c.words-1.given)

pub returns : goal.returns
unfolding in_rows
returns c = (refl, rows_room _ (in_long c.args.b.now c.words-1.given))
