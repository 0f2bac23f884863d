-- `replies_with` from what `holds` ensures.
use Rattle.player_place.proofs.Moves.{edge_of}
use Rattle.panel_place.proofs.replies_with.Goals as goal

pub returns : goal.returns
returns c = edge_of _ _ _ _ _ c.requires.0 c.row_of.ensures.1 c.holds.ensures
