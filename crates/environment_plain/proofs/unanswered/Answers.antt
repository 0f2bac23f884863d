-- `unanswered` is the lowest of the common inputs.
use Rattle.sets.proofs.Rows.{none, some}
use Rattle.environment_table.proofs.Reading.{both_none, both_lowest}
use Rattle.environment_plain.proofs.unanswered.Goals as goal

pub returns-then-is_empty : goal.returns-then-is_empty
returns-then-is_empty c =
    let p = c.requires in
    both_none _ _ _ p.0 p.1 _ c.intersection-x.ensures (none _ c.is_empty.ensures c.if-is_empty.true)

pub returns : goal.returns
returns c =
    let p = c.requires in
    both_lowest _ _ _ p.0 p.1 _ c.intersection-x.ensures (some _ c.is_empty.ensures c.if-is_empty.false) c.lowest.ensures
