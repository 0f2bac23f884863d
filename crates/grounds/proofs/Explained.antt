-- The ground of every position of every game, accepted or not.
--
--   holds_decides      : a ground that holds says who wins
--   ground_decides     : the ground is one of a won position exactly where the position is won
--   ground_explains    : the ground is the first that holds of the position, and its home is the row's
use Prim.Native.Nat.{ℕ, ◌<◌}
use mathlib.Core.Path.{◌≡◌, refl}
use mathlib.Core.Bool.{true}
use mathlib.Core.Logic.{◌↔◌}
use Rattle.finite.proofs.Truth.{clash}
use Rattle.arena.specs.Arena.{Separated, arena_of}
use Rattle.arena.specs.Win.{Won}
use Rattle.grounds.specs.Ground.{
  Ground,
  input_stuck,
  by_replies,
  at_home,
  output_stuck,
  unanswered,
  by_way_out,
  unserved,
  pushed_on,
  wins,
  ground,
}
use Rattle.grounds.specs.Holds.{Holds, Explains}
use Rattle.grounds.proofs.Holds.{ground_holds}
use Rattle.grounds.proofs.First.{ground_first}
use Rattle.grounds.proofs.Row.{home_row}

-- a ground that holds says who wins
holds_decides : (S : Separated) (i o : ℕ) (g : Ground) → Holds S i o g → (wins g ≡ true) ↔ Won (arena_of S) i o
unfolding Holds wins
holds_decides S i o input_stuck v = (λ e. v.won, λ w. refl)
holds_decides S i o by_replies v = (λ e. v.won, λ w. refl)
holds_decides S i o (at_home d) v = (λ e. v.won, λ w. refl)
holds_decides S i o output_stuck v = (λ e. clash e refl, λ w. absurd (v.lost w))
holds_decides S i o (unanswered j) v = (λ e. clash e refl, λ w. absurd (v.lost w))
holds_decides S i o (by_way_out j) v = (λ e. clash e refl, λ w. absurd (v.lost w))
holds_decides S i o (unserved k n) v = (λ e. clash e refl, λ w. absurd (v.lost w))
holds_decides S i o pushed_on v = (λ e. clash e refl, λ w. absurd (v.lost w))

module _ (S : Separated) (i o : ℕ) (a : i < S.input.states) (b : o < S.output.states) where
  ground_decides : (wins (ground S i o) ≡ true) ↔ Won (arena_of S) i o
  ground_decides = holds_decides S i o (ground S i o) (ground_holds S i o a b)

  pub ground_explains : Explains S i o (ground S i o)
  ground_explains = record {
    holds = ground_holds S i o a b;
    earliest = ground_first S i o a b;
    decides = ground_decides;
    row = λ d c e. home_row S i o a b d e c;
  }
