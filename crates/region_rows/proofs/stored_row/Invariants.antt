-- `stored_row` works out homes, or replies.
use Rattle.board.specs.Board.{game_on}
use Rattle.region_rows.proofs.stored_row.Given as goal

abbrev pub ghost-accepted : goal.ghost-accepted
ghost-accepted g a = game_on a.z a.b.now
