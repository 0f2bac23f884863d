-- `wins_unbarred`.
use Rattle.board.specs.Board.{game_on}
use Rattle.interlock.proofs.wins_unbarred.Given as goal

abbrev pub ghost-prepare : goal.ghost-prepare
ghost-prepare a = game_on a.z a.b.now
