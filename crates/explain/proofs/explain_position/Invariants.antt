-- `explain_position`.
use Rattle.board.specs.Board.{game_on}
use Rattle.explain.proofs.explain_position.Given as goal

abbrev pub ghost-prepare : goal.ghost-prepare
ghost-prepare a = game_on a.z a.b.now
