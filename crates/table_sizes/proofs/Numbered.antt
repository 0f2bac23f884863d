-- The sets by number, one requirement after the other.
--
--   sets_of_lem                         : a requirement's four sets
--   upto_none, upto_next, upto_all  : how many sets there are
--   range_short, range_set_lem      : the sets of the next requirement, by number
--   met_further, met_all            : those among them that have a state in x
use Prim.Native.Nat.{ℕ, zero, suc, ◌+◌, ◌≤◌, ◌<◌}
use mathlib.Core.Path.{◌≡◌, refl, sym, ◌∙◌, ap}
use mathlib.Core.Bool.{Bool, ◌&&◌}
use mathlib.Core.List.{◌∷◌, []}
use native.Mathlib.Omega.{arith}
use lib.ListN.{length, get_or}
use Rattle.finite.proofs.Bounded.{any_same}
use Rattle.bits.specs.Member.{has, pack, sets_meet, both}
use Rattle.sets.specs.declared.Set.{Set}
use Rattle.sets.specs.Words.{capacity, bits_of, no_states}
use Rattle.game.specs.declared.Requirement.{Requirement}
use Rattle.game.specs.declared.Game.{Game}
use Rattle.game.specs.Access.{requirement_at}
use Rattle.theory.specs.Tour.{goal_at}
use Rattle.table_goals.specs.declared.GoalRange.{GoalRange}
use Rattle.table_goals.specs.Ranges.{met_in, range_set, Short, MetMore}
use Rattle.table_sizes.specs.Below.{Side, all_sets}
use Rattle.table_sizes.specs.Numbered.{SetsOf, Upto}
use Rattle.table_sizes.proofs.Below.{Listed, below_none, below_more, below_all, set_found}

pub sets_of_lem : (s : Side) (q : Requirement) (n c : ℕ) (w x y z : Set) → c ≡ s.count q → bits_of w ≡ bits_of (s.set q 0) → bits_of x ≡ bits_of (s.set q 1)
    → bits_of y ≡ bits_of (s.set q 2) → bits_of z ≡ bits_of (s.set q 3) → SetsOf s q n (record { sets = w ∷ x ∷ y ∷ z ∷ []; count = c; from = n })
sets_of_lem s q n c w x y z e f g h k = record { first = refl; count = e; sets = at }
  where
    at : (j : ℕ) → j < 4 → bits_of (get_or (w ∷ x ∷ y ∷ z ∷ []) j no_states) ≡ bits_of (s.set q j)
    at zero b = f
    at (suc zero) b = g
    at (suc (suc zero)) b = h
    at (suc (suc (suc zero))) b = k
    at (suc (suc (suc (suc j)))) b = absurd (omega arith)

module _ (s : Side) (L : Listed s) (g : Game) where
  pub upto_none : Upto s g 0 0
  upto_none = record { few = omega arith; count = below_none s L g }

  pub upto_all : (r n : ℕ) → r ≤ g.k → g.k ≤ r → Upto s g r n → n ≡ length (all_sets s g)
  upto_all r n a b U = below_all s L g r n a b U.count

  pub met_all : (x r n q : ℕ) → r ≤ g.k → g.k ≤ r → Upto s g r n → q ≡ pack n (met_in (all_sets s g) x)
      → q ≡ pack (length (all_sets s g)) (met_in (all_sets s g) x)
  met_all x r n q a b U e = e ∙ ap (λ (i : ℕ). pack i (met_in (all_sets s g) x)) (upto_all r n a b U)

  -- the sets of requirement r
  module _ (r n : ℕ) (t : GoalRange) (l : r < g.k) (k : g.k ≤ 8) (f : s.count (requirement_at g r) ≤ 4) (U : Upto s g r n)
      (W : SetsOf s (requirement_at g r) n t) where
    pub upto_next : Upto s g (r + 1) (n + t.count)
    upto_next = record {
      few = omega (arith, U.few, W.count);
      count = ap (λ (i : ℕ). n + i) W.count ∙ below_more s L g r n U.count;
    }

    pub range_short : Short t
    range_short = record { places = omega (arith, W.count); numbers = omega (arith, W.count, W.first, U.few) }

    pub range_set_lem : (j : ℕ) → j < t.count → has (range_set t j) ≡ goal_at (all_sets s g) (t.from + j)
    range_set_lem j b =
        ap has (W.sets j (omega (arith, W.count)))
        ∙ set_found s L g r (t.from + j) j l (omega (arith, W.first, U.count)) (omega (arith, W.count))

    met_at : (x j : ℕ) → j < t.count → sets_meet capacity (range_set t j) x ≡ met_in (all_sets s g) x (t.from + j)
    unfolding sets_meet both met_in
    met_at x j b =
        any_same capacity (both (range_set t j) x) (λ i. goal_at (all_sets s g) (t.from + j) i && has x i)
        (λ i d. ap (λ (p : ℕ → Bool). p i && has x i) (range_set_lem j b))

    pub met_further : (x q m : ℕ) → q ≡ pack n (met_in (all_sets s g) x) → MetMore t x q t.count m → m ≡ pack (n + t.count) (met_in (all_sets s g) x)
    met_further x q m e M =
        M.goals (met_in (all_sets s g) x) (e ∙ ap (λ (i : ℕ). pack i (met_in (all_sets s g) x)) (sym W.first)) (λ j b. met_at x j b)
        ∙ ap (λ (i : ℕ). pack (i + t.count) (met_in (all_sets s g) x)) W.first
