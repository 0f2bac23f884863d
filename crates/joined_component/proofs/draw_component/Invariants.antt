-- `draw_component`.
use Prim.Native.Nat.{◌≤◌}
use Rattle.joined_component.proofs.Drawing.{Drawing}
use Rattle.joined_component.proofs.draw_component.Given as goal

abbrev pub invariant-loop-i : goal.invariant-loop-i
invariant-loop-i l = (l.i ≤ l.g.input.states) × Drawing l.g l.n l.i l.initial.s l.s
