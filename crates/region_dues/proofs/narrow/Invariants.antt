-- `narrow`. Invariant: y has the members of x that the first q requirements admit.
use Prim.Native.Nat.{ℕ, ◌≤◌}
use mathlib.Core.Path.{◌≡◌}
use mathlib.Core.Bool.{◌&&◌}
use Rattle.finite.specs.Bounded.{all}
use Rattle.bits.specs.Member.{has}
use Rattle.sets.specs.Words.{bits_of, sets_in}
use Rattle.region_dues.specs.Dues.{admits_by}
use Rattle.region_dues.proofs.narrow.Given as goal

abbrev pub invariant-loop-q : goal.invariant-loop-q
invariant-loop-q l =
    (l.q ≤ l.n) × ((d : ℕ) → has (bits_of l.y.0) d ≡ (has (bits_of l.initial.y.0) d && all l.q (admits_by l.b l.from (bits_of l.a.0) (sets_in l.t) d)))
