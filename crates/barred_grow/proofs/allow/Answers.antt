-- `allow`.
use native.Mathlib.Omega.{arith}
use Rattle.sets.proofs.Rows.{sets_long, count_same}
use Rattle.barred_grow.proofs.Rows.{grown_allowed}
use Rattle.barred_grow.proofs.allow.Goals as goal

pub put-requires : goal.put-requires
put-requires c =
    omega (arith, c.requires.0, c.requires.2, c.requires.3)

pub overflow_add-j-4 : goal.overflow_add-j-4
overflow_add-j-4 c =
    omega (arith, c.requires.0, c.requires.2)

pub put-requires-2 : goal.put-requires-2
put-requires-2 c =
    omega (arith, c.requires.0, c.requires.2, c.requires.3, count_same c.put.new.l c.args.s.now c.put.auto.l)

pub returns : goal.returns
returns c =
    λ ins x. rw (c.put-2.ensures, c.put.ensures)
    (grown_allowed _ _ _ _ c.requires.0 _ c.args.j _ _ _ _ _ _ _ _ c.requires.2 (omega (arith, c.requires.0, c.requires.2, c.requires.3, sets_long c.args.s.now))
    c.near-x.ensures c.difference-fresh.ensures c.answering-new.ensures c.row-old.ensures c.union.ensures)
