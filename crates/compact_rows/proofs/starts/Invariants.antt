-- `starts` copies one start after the other.
use Prim.Native.Nat.{◌≤◌, ◌-◌}
use Rattle.compact_rows.specs.Copying.{Started}
use Rattle.compact_rows.proofs.starts.Given as goal

abbrev pub invariant-loop-i : goal.invariant-loop-i
invariant-loop-i l = (l.i ≤ l.inputs) × Started l.table l.inputs l.i l.initial.room l.room
