-- `row_fits` from what `limit` and `within` ensure.
use Rattle.game.proofs.Steps.{row_within}
use Rattle.accept_graph.proofs.row_fits.Goals as goal

pub returns : goal.returns
returns c = row_within _ _ _ _ _ c.limit.ensures c.within.ensures
