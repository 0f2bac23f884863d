-- `is_due`.
use Prim.Native.Nat.{◌≤◌}
use mathlib.Core.Path.{◌≡◌}
use mathlib.Core.Bool.{true}
use Rattle.finite.specs.Bounded.{all}
use Rattle.sets.specs.Words.{bits_of}
use Rattle.joined_component.specs.Component.{due_at}
use Rattle.joined_component.proofs.is_due.Given as goal

abbrev pub invariant-loop-j : goal.invariant-loop-j
invariant-loop-j l = (l.j ≤ l.n) × (all l.j (due_at l.q (bits_of l.x.0)) ≡ true)
