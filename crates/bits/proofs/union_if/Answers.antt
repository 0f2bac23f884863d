-- `union_if` adds the members of y where the test holds.
use Rattle.bits.proofs.Collect.{united, not_united}
use Rattle.bits.proofs.union_if.Goals as goal

pub returns-then-ok : goal.returns-then-ok
returns-then-ok c s = united c.args.x c.args.y c.union.result s c.args.ok c.if-ok.true (c.union.ensures s)

pub returns : goal.returns
returns c s = not_united c.args.x c.args.y s c.args.ok c.if-ok.false
