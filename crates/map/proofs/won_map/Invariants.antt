-- `won_map`: what it refuses; else it works out the region, writes the map and clears scratch.
use Rattle.board.specs.Board.{game_on}
use Rattle.map.proofs.won_map.Given as goal

abbrev pub ghost-prepare : goal.ghost-prepare
ghost-prepare a = game_on a.z a.b.now

abbrev pub ghost-fill_map : goal.ghost-fill_map
ghost-fill_map a = game_on a.z a.b.now
