-- `aim_some` goes through the sets.
use Prim.Native.Nat.{◌≤◌}
use Rattle.sets.specs.Words.{bits_of, sets_in}
use Rattle.table_tours.specs.Course.{RangeWritten}
use Rattle.table_tours.proofs.aim_some.Given as goal

abbrev pub invariant-loop-j : goal.invariant-loop-j
invariant-loop-j l = (l.j ≤ l.t.count) × RangeWritten (sets_in l.moves) l.z (bits_of l.c.0) (bits_of l.over.0) l.q.0 l.t l.j l.initial.room l.room
