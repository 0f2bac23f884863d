-- `gather_rows` goes through the row numbers.
use Prim.Native.Nat.{◌≤◌, ◌-◌}
use Rattle.compact_rows.specs.Copying.{GatheredRows}
use Rattle.compact_rows.proofs.gather_rows.Given as goal

abbrev pub invariant-loop-x : goal.invariant-loop-x
invariant-loop-x l = (l.x ≤ l.rows) × GatheredRows l.table l.inputs l.components l.rows l.x l.initial.room l.room
