-- `begins_with` from what `holds` ensures.
use Rattle.player_place.proofs.Moves.{begins_of, inputs_most}
use Rattle.player_place.proofs.begins_with.Goals as goal

pub holds-requires : goal.holds-requires
holds-requires c = inputs_most _ c.requires

pub returns : goal.returns
returns c = begins_of _ _ _ c.holds.ensures
