-- `join`.
use Prim.Native.Nat.{◌≤◌}
use Rattle.joined_component.proofs.Drawing.{Joining}
use Rattle.joined_component.proofs.join.Given as goal

abbrev pub invariant-loop-i : goal.invariant-loop-i
invariant-loop-i l = (l.i ≤ l.fn.g.input.states) × Joining l.a l.i l.initial.s l.s
