-- `insert_if` meets its contract.
use Rattle.bits.proofs.Collect.{inserted, not_inserted}
use Rattle.sets.proofs.insert_if.Goals as goal

pub returns-then-ok : goal.returns-then-ok
returns-then-ok c = λ t. inserted _ _ _ t _ c.if-ok.true (c.insert.ensures t)

pub returns : goal.returns
returns c = λ t. not_inserted _ _ t _ c.if-ok.false
