-- The members of a set below a bound, tested lowest first.
--
--   Passing w x n p rest  == the members of x below n pass the test p, but for those of `rest`
--   passing-*             : how that begins, goes on and ends
use Prim.Native.Nat.{ℕ, ◌^◌, ◌≤◌, ◌<◌}
use mathlib.Core.Path.{◌≡◌, sym, ◌∙◌, ap}
use mathlib.Core.Bool.{Bool, true, false, ◌&&◌, not}
use mathlib.Core.Logic.{◌≢◌}
use native.Mathlib.Omega.{arith}
use native.Mathlib.Decide.{ℕ_discrete}
use lib.Dec.{eqb, ltb}
use Rattle.finite.specs.Bounded.{least, count}
use Rattle.finite.proofs.Truth.{clash}
use Rattle.bits.specs.Member.{has}
use Rattle.bits.proofs.Membership.{has_zero_lem}
use Rattle.bits.proofs.Remove.{less_in, less_other, less_falls}
use Rattle.bits.proofs.Visit.{small_word, lowest_below, lowest_in_lem, lowest_less, cut_in, cut_all}

module _ (w x n : ℕ) (p : ℕ → Bool) where
  pub record Passing (rest : ℕ) : Type 0 where
    pub bound : n ≤ w
    pub inside : (j : ℕ) → has rest j ≡ true → (j < n) × (has x j ≡ true)
    pub passed : (j : ℕ) → j < n → has x j ≡ true → has rest j ≡ false → p j ≡ true

  -- all members are left, and all of them are below n
  pub passing_whole : n ≤ w → ((s : ℕ) → has x s ≡ true → s < n) → Passing x
  passing_whole l f = record { bound = l; inside = λ j e. (f j e, e); passed = λ j b e h. clash e h }

  pub passing_start : (b rest : ℕ) → n ≤ w → ((s : ℕ) → has b s ≡ ltb s n) → ((s : ℕ) → has rest s ≡ (has x s && has b s)) → Passing rest
  passing_start b rest l f i = record {
    bound = l;
    inside = cut_in x b rest n f i;
    passed = λ j a e h. clash (cut_all x b rest n f i j a e) h;
  }

  module _ (rest : ℕ) (P : Passing rest) (ne : rest ≢ 0) (j : ℕ) (e : j ≡ least w (has rest)) where
    small : rest < 2 ^ w
    small = small_word w rest (λ s a. omega (arith, P.bound, (P.inside s a).0))

    passing_small : j < w
    passing_small = lowest_below w rest j small ne e

    here : (j < n) × (has x j ≡ true)
    here = P.inside j (lowest_in_lem w rest j small ne e)

    pub passing_below : j < n
    passing_below = here.0

    pub passing_member : has x j ≡ true
    passing_member = here.1

    -- r is rest without its lowest member
    module _ (r : ℕ) (d : (s : ℕ) → has r s ≡ (has rest s && not (eqb s (least w (has rest))))) where
      less : (s : ℕ) → has r s ≡ (has rest s && not (eqb s j))
      less = lowest_less w rest j r e d

      pub passing_falls : count w (has r) < count w (has rest)
      passing_falls = less_falls rest j r less w passing_small (lowest_in_lem w rest j small ne e)

      pub passing_next : p j ≡ true → Passing r
      passing_next h = record {
        bound = P.bound;
        inside = λ k a. P.inside k (less_in rest j r less k a);
        passed = λ k b a g. passed k b a g (ℕ_discrete k j);
      }
        where
          passed : (k : ℕ) → k < n → has x k ≡ true → has r k ≡ false → Dec (k ≡ j) → p k ≡ true
          passed k b a g (yes q) = rw q h
          passed k b a g (no q) = P.passed k b a (sym (less_other rest j r less k q) ∙ g)

  pub passing_end : (rest : ℕ) → Passing rest → rest ≡ 0 → (j : ℕ) → j < n → has x j ≡ true → p j ≡ true
  passing_end rest P z j b a = P.passed j b a (ap (λ (k : ℕ). has k j) z ∙ has_zero_lem j)
