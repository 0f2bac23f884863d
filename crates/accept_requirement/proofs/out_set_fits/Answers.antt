-- `out_set_fits` from what `limit` and `within` ensure.
use Rattle.game.proofs.Steps.{out_set_fits_lem}
use Rattle.accept_requirement.proofs.out_set_fits.Goals as goal

pub returns : goal.returns
returns c = out_set_fits_lem _ _ _ _ _ c.limit.ensures c.within.ensures
