-- `union_if` meets its contract.
use Rattle.bits.proofs.Collect.{united, not_united}
use Rattle.sets.proofs.union_if.Goals as goal

pub returns-then-ok : goal.returns-then-ok
returns-then-ok c = λ s. united _ _ _ s _ c.if-ok.true (c.union.ensures s)

pub returns : goal.returns
returns c = λ s. not_united _ _ s _ c.if-ok.false
