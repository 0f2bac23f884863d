-- `write_winner`, the rows by component: the region is worked out for the game that the board stands for.
use Rattle.board.specs.Board.{game_on}
use Rattle.solver_winner.proofs.by_component.write_winner.Given as goal

abbrev pub ghost-prepare : goal.ghost-prepare
ghost-prepare a = game_on a.z a.b.now
