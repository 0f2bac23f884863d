-- `starts` writes the start entries.
use Prim.Native.Nat.{◌≤◌}
use Rattle.sets.specs.Words.{bits_of, sets_in}
use Rattle.controller_rows.specs.Writes.{Starts}
use Rattle.controller_opening.proofs.starts.starts.Given as goal

abbrev pub invariant-loop-i : goal.invariant-loop-i
invariant-loop-i l = (l.i ≤ l.n) × Starts l.z (sets_in l.s) (bits_of l.c.0) (bits_of l.ins.0) (bits_of l.outs.0) l.i l.initial.room l.room
