-- `pushed` by whether the output has a move.
use Rattle.sets.proofs.Rows.{none, some}
use Rattle.environment_table.proofs.Known.{pushed_all, pushed_trivials}
use Rattle.environment_plain.proofs.pushed.Goals as goal

pub returns-then-is_empty : goal.returns-then-is_empty
returns-then-is_empty c = pushed_all _ _ _ _ (none _ c.is_empty.ensures c.if-is_empty.true) c.below.ensures

pub returns : goal.returns
returns c = pushed_trivials _ _ _ (some _ c.is_empty.ensures c.if-is_empty.false)
