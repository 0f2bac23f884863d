-- `prepare` works out the closures, then the components, then the rows.
use Rattle.board.specs.Board.{game_on}
use Rattle.region.proofs.prepare.Given as goal

abbrev pub ghost-close : goal.ghost-close
ghost-close g a = game_on a.z a.b.now

abbrev pub ghost-nontrivial_states : goal.ghost-nontrivial_states
ghost-nontrivial_states g a = game_on a.z a.b.now

abbrev pub ghost-served : goal.ghost-served
ghost-served g a = game_on a.z a.b.now

abbrev pub ghost-fill : goal.ghost-fill
ghost-fill g a = game_on a.z a.b.now
