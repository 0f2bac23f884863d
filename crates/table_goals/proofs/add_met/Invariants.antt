-- `add_met` goes through the sets.
use Prim.Native.Nat.{◌≤◌}
use Rattle.sets.specs.Words.{bits_of}
use Rattle.table_goals.specs.Ranges.{MetMore}
use Rattle.table_goals.proofs.add_met.Given as goal

abbrev pub invariant-loop-j : goal.invariant-loop-j
invariant-loop-j l = (l.j ≤ l.s.count) × MetMore l.s (bits_of l.x) l.initial.m.0 l.j l.m.0
