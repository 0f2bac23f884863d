-- `first_missed`.
use mathlib.Core.Bool.{false, not}
use mathlib.Core.Path.{◌≡◌}
use Prim.Native.Nat.{◌≤◌}
use Rattle.finite.specs.Bounded.{any}
use Rattle.sets.specs.Words.{bits_of}
use Rattle.region_dues.specs.Dues.{out_meets_at}
use Rattle.ground_search.proofs.first_missed.Given as goal

abbrev pub invariant-loop-j : goal.invariant-loop-j
invariant-loop-j l = (l.n ≤ 4) × (l.j ≤ l.n) × (any l.j (λ k. not (out_meets_at l.q (bits_of l.b.0) k)) ≡ false)
