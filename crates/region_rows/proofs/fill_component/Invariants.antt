-- `fill_component` works out the row of one input, which is that of its component.
use Rattle.board.specs.Board.{game_on}
use Rattle.region_rows.proofs.fill_component.Given as goal

abbrev pub ghost-bottom : goal.ghost-bottom
ghost-bottom g a = game_on a.z a.b.now

abbrev pub ghost-stored_row : goal.ghost-stored_row
ghost-stored_row g a = game_on a.z a.b.now
