-- `is_served`.
use Prim.Native.Nat.{◌≤◌}
use mathlib.Core.Path.{◌≡◌}
use mathlib.Core.Bool.{true}
use Rattle.finite.specs.Bounded.{all}
use Rattle.sets.specs.Words.{bits_of}
use Rattle.joined_component.specs.Component.{served_at}
use Rattle.joined_component.proofs.is_served.Given as goal

abbrev pub invariant-loop-j : goal.invariant-loop-j
invariant-loop-j l = (l.j ≤ l.n) × (all l.j (served_at l.q (bits_of l.y.0)) ≡ true)
