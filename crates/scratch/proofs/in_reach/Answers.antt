-- `in_reach` reads the set of i in the first area.
use Rattle.scratch.specs.Stored.{in_reach_at}
use Rattle.scratch.proofs.in_reach.Goals as goal

pub returns : goal.returns
unfolding in_reach_at
returns c = c.row.ensures
