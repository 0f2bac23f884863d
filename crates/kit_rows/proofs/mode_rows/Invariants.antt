-- `mode_rows` goes through the old commands.
use Prim.Native.Nat.{◌≤◌}
use Rattle.kit_rows.specs.Writing.{Moded}
use Rattle.kit_rows.proofs.mode_rows.Given as goal

abbrev pub invariant-loop-u : goal.invariant-loop-u
invariant-loop-u l = (l.u ≤ l.commands) × Moded l.next l.commands l.kept l.i l.at l.u l.initial.room l.room
