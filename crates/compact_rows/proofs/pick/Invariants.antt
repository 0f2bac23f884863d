-- `pick` goes through the ranks.
use Prim.Native.Nat.{◌≤◌, ◌-◌}
use Rattle.compact_rows.specs.Copying.{Picked}
use Rattle.compact_rows.proofs.pick.Given as goal

abbrev pub invariant-loop-c : goal.invariant-loop-c
invariant-loop-c l = (l.c ≤ l.components) × Picked l.table l.from l.at l.cells l.c l.initial.room l.room
