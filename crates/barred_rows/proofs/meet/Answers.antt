-- `meet`.
use native.Mathlib.Omega.{arith}
use Rattle.sets.proofs.Rows.{some, none}
use Rattle.barred_rows.proofs.Merging.{merging_start, merging_skip, merging_next, merging_end, and_same, met}
use Rattle.barred_rows.proofs.meet.Goals as goal
use Rattle.barred_rows.proofs.meet.Goals.{then-not-is_empty, else-not-is_empty}

pub loop-i-init : goal.loop-i-init
loop-i-init c = merging_start and_same _ _ _ _ c.requires.0

pub loop-i-preserved : goal.loop-i-preserved
loop-i-preserved c =
    elim c.if-not-is_empty.branch [
      | then-not-is_empty w ↦ rw (w.s-is, w.shrank-is) (merging_next and_same c.loop-i.invariant c.requires.3 (omega arith) c.row-old.ensures c.row.ensures c.difference-lost.ensures _ _
          w.difference.ensures (some _ c.is_empty.ensures w.if-not-is_empty.true) c.requires.2 w.put.auto.l w.put.ensures)
      | else-not-is_empty w ↦ rw (w.s-is, w.shrank-is) (merging_skip and_same c.loop-i.invariant c.requires.3 (omega arith) c.row-old.ensures c.row.ensures c.difference-lost.ensures
          (none _ c.is_empty.ensures w.if-not-is_empty.false))
    ]

pub shape_of-s : goal.shape_of-s
shape_of-s c = c.loop-i.invariant.long

pub returns : goal.returns
returns c = met (merging_end c.loop-i.invariant c.loop-i-test.false)
