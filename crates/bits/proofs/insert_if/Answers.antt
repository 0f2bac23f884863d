-- `insert_if` adds one member where the test holds.
use Rattle.bits.proofs.Collect.{inserted, not_inserted}
use Rattle.bits.proofs.insert_if.Goals as goal

pub returns-then-ok : goal.returns-then-ok
returns-then-ok c t = inserted c.args.x c.args.s c.insert.result t c.args.ok c.if-ok.true (c.insert.ensures t)

pub returns : goal.returns
returns c t = not_inserted c.args.x c.args.s t c.args.ok c.if-ok.false
