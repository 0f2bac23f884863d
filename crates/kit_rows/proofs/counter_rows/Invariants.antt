-- `counter_rows` goes through the old modes.
use Prim.Native.Nat.{◌≤◌}
use Rattle.kit_rows.specs.Writing.{Counted}
use Rattle.kit_rows.proofs.counter_rows.Given as goal

abbrev pub invariant-loop-i : goal.invariant-loop-i
invariant-loop-i l = (l.i ≤ l.modes) × Counted l.next l.modes l.commands l.kept l.first l.i l.initial.room l.room
