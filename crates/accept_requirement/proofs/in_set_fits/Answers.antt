-- `in_set_fits` from what `limit` and `within` ensure.
use Rattle.game.proofs.Steps.{in_set_fits_lem}
use Rattle.accept_requirement.proofs.in_set_fits.Goals as goal

pub returns : goal.returns
returns c = in_set_fits_lem _ _ _ _ _ c.limit.ensures c.within.ensures
