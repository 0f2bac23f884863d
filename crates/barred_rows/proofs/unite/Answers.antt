-- `unite`.
use native.Mathlib.Omega.{arith}
use Rattle.sets.proofs.Rows.{some, none}
use Rattle.barred_rows.proofs.Merging.{merging_start, merging_skip, merging_next, merging_end, united, or_same}
use Rattle.barred_rows.proofs.unite.Goals as goal
use Rattle.barred_rows.proofs.unite.Goals.{then-not-is_empty, else-not-is_empty}

pub loop-i-init : goal.loop-i-init
loop-i-init c = merging_start or_same _ _ _ _ c.requires.0

pub loop-i-preserved : goal.loop-i-preserved
loop-i-preserved c =
    elim c.if-not-is_empty.branch [
      | then-not-is_empty w ↦ rw (w.s-is, w.grew-is) (merging_next or_same c.loop-i.invariant c.requires.3 (omega arith) c.row-old.ensures c.row.ensures c.difference-more.ensures _ _
          w.union.ensures (some _ c.is_empty.ensures w.if-not-is_empty.true) c.requires.2 w.put.auto.l w.put.ensures)
      | else-not-is_empty w ↦ rw (w.s-is, w.grew-is) (merging_skip or_same c.loop-i.invariant c.requires.3 (omega arith) c.row-old.ensures c.row.ensures c.difference-more.ensures
          (none _ c.is_empty.ensures w.if-not-is_empty.false))
    ]

pub shape_of-s : goal.shape_of-s
shape_of-s c = c.loop-i.invariant.long

pub returns : goal.returns
returns c = united (merging_end c.loop-i.invariant c.loop-i-test.false)
