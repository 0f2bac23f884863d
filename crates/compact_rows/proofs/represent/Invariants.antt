-- `represent` goes through the inputs; the ranks, which it reads from the room, stay.
use Prim.Native.Nat.{◌≤◌, ◌-◌}
use Rattle.compact_rows.specs.Copying.{Represented}
use Rattle.compact_rows.proofs.represent.Given as goal

abbrev pub invariant-loop-j : goal.invariant-loop-j
invariant-loop-j l = (l.j ≤ l.inputs) × Represented l.inputs l.components l.at l.j l.initial.room l.room
