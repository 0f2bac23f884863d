-- `accepts`.
use Prim.Native.Nat.{◌≤◌}
use mathlib.Core.Path.{◌≡◌}
use mathlib.Core.Bool.{true}
use Rattle.finite.specs.Bounded.{all}
use Rattle.sets.specs.Words.{bits_of}
use Rattle.joined_component.specs.Component.{accepts_at}
use Rattle.joined_component.proofs.accepts.Given as goal

abbrev pub invariant-loop-r : goal.invariant-loop-r
invariant-loop-r l = (l.r ≤ l.g.k) × (all l.r (accepts_at l.g (bits_of l.x.0) (bits_of l.y.0)) ≡ true)
