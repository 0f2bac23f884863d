-- `moves_to` from what `holds` ensures.
use Rattle.player_place.proofs.Moves.{edge_lent}
use Rattle.player_place.proofs.moves_to.Goals as goal

pub returns : goal.returns
returns c =
    let p = c.requires in
    edge_lent _ _ _ _ _ _ _ p.0 p.1 p.2 c.row_of.ensures.1 c.holds.ensures
