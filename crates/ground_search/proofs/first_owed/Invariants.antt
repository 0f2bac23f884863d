-- `first_owed`.
use mathlib.Core.Bool.{false}
use mathlib.Core.Path.{◌≡◌}
use Prim.Native.Nat.{◌≤◌}
use Rattle.finite.specs.Bounded.{any}
use Rattle.sets.specs.Words.{bits_of}
use Rattle.ground_search.specs.Asked.{owed_in}
use Rattle.ground_search.proofs.first_owed.Given as goal

abbrev pub invariant-loop-r : goal.invariant-loop-r
invariant-loop-r l = (l.n ≤ 8) × (l.r ≤ l.n) × (any l.r (owed_in l.g (bits_of l.a.0) (bits_of l.b.0)) ≡ false)
