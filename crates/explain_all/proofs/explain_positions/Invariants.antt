-- `explain_positions`: what the board, the region's working out, the filling and the clearing leave.
use Rattle.board.specs.Board.{game_on}
use Rattle.explain_all.proofs.explain_positions.Given as goal

abbrev pub ghost-prepare : goal.ghost-prepare
ghost-prepare a = game_on a.z a.b.now
