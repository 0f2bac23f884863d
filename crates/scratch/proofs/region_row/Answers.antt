-- `region_row` reads the set of j in the second area.
use Rattle.scratch.specs.Stored.{row_at}
use Rattle.scratch.proofs.region_row.Goals as goal

pub returns : goal.returns
unfolding row_at
returns c = c.row.ensures
