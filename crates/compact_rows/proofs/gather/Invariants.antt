-- `gather` goes through the inputs.
use Prim.Native.Nat.{◌≤◌, ◌-◌}
use Rattle.compact_rows.specs.Copying.{Gathered}
use Rattle.compact_rows.proofs.gather.Given as goal

abbrev pub invariant-loop-j : goal.invariant-loop-j
invariant-loop-j l = (l.j ≤ l.inputs) × Gathered l.table l.inputs l.from l.at l.j l.initial.room l.room
