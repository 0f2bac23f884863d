-- `put_region_row` writes the set of j in the second area.
use Rattle.scratch.proofs.Areas.{row_put}
use native.Mathlib.Omega.{arith}
use Rattle.scratch.proofs.put_region_row.Goals as goal

pub returns : goal.returns
returns c = row_put _ _ _ _ _ (omega arith) (omega arith) c.put.auto.l c.put.ensures
