-- `opens_with` from what `holds` ensures.
use Rattle.player_place.proofs.Moves.{begins_of, outputs_most}
use Rattle.panel_place.proofs.opens_with.Goals as goal

pub holds-requires : goal.holds-requires
holds-requires c = outputs_most _ c.requires

pub returns : goal.returns
returns c = begins_of _ _ _ c.holds.ensures
