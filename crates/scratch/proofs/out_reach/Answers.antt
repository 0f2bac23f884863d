-- `out_reach` reads the set of o in the third area.
use Rattle.scratch.specs.Stored.{out_reach_at}
use Rattle.scratch.proofs.out_reach.Goals as goal

pub returns : goal.returns
unfolding out_reach_at
returns c = c.row.ensures
