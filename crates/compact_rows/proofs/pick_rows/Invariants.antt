-- `pick_rows` goes down through the row numbers.
use Prim.Native.Nat.{◌≤◌}
use Rattle.compact_rows.specs.Copying.{PickedRows}
use Rattle.compact_rows.proofs.pick_rows.Given as goal

abbrev pub invariant-loop-x : goal.invariant-loop-x
invariant-loop-x l = (l.x ≤ l.rows) × PickedRows l.table l.inputs l.components l.rows l.x l.initial.room l.room

abbrev pub decreases-loop-x : goal.decreases-loop-x
decreases-loop-x l = l.x
