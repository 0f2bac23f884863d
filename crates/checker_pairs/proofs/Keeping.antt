-- The reachable places outside an output set, marked one by one.
--
--   keep_start, keep_next    : how that begins and goes on
--   keep_outside, keep-in    : what is marked in the end
use Prim.Native.Nat.{ℕ, ◌+◌, ◌/◌, ◌≤◌, ◌<◌}
use mathlib.Core.Path.{◌≡◌, sym, ◌∙◌, ap}
use mathlib.Core.Bool.{true, false, not, ◌&&◌}
use mathlib.Core.List.{List}
use mathlib.Core.Logic.{inl, inr}
use native.Mathlib.Omega.{arith}
use lib.Dec.{eqb}
use lib.ListN.{length, get_or, set, length-set}
use lib.Seq.{get_or-set_same}
use Rattle.finite.proofs.Truth.{and_intro, and_left, and_right, not_true}
use Rattle.finite.proofs.Bounded.{below_suc}
use Rattle.bits.specs.Member.{has}
use Rattle.checker_search.specs.Turns.{marked}
use Rattle.checker_search.proofs.Turns.{marked_other}
use Rattle.checker_pairs.specs.Pairs.{KeepFits, Keep}

module _ (I M N : ℕ) (reached : List ℕ) (x : ℕ) where
  pub keep_start : (kept : List ℕ) → KeepFits I M N kept → Keep I M N reached x kept 0
  keep_start kept F = record { size = F.long; upto = omega arith; each = λ c b. absurd (omega (arith, b)) }

  pub keep_next : (kept : List ℕ) (c : ℕ) → Keep I M N reached x kept c → N ≤ 4096 → c < N → (v : ℕ)
      → eqb v 1 ≡ (eqb (get_or reached c 0) 1 && not (has x (c / I / M))) → Keep I M N reached x (set kept c v) (c + 1)
  unfolding marked
  keep_next kept c K f b v e = record {
    size = length-set kept c v ∙ K.size;
    upto = omega (arith, b);
    each = λ d l. elim (below_suc d c (omega (arith, l))) [
      | inl z ↦ ap (marked (set kept c v)) z ∙ ap (λ (y : ℕ). eqb y 1) (get_or-set_same kept c v 0 in_list) ∙ e
          ∙ ap (λ (y : ℕ). marked reached y && not (has x (y / I / M))) (sym z)
      | inr i ↦ marked_other kept c in_list v d (λ z. omega (arith, z, i)) ∙ K.each d i
    ];
  }
    where
      in_list : c < length kept
      in_list = omega (arith, K.size, b, f)

  module _ (kept : List ℕ) (K : Keep I M N reached x kept N) (k : ℕ) (b : k < N) where
    pub keep_outside : marked reached k ≡ true → has x (k / I / M) ≡ false → marked kept k ≡ true
    keep_outside h o = K.each k b ∙ and_intro h (ap not o)

    module _ (h : marked kept k ≡ true) where
      pub keep_reached : marked reached k ≡ true
      keep_reached = and_left (marked reached k) (not (has x (k / I / M))) (sym (K.each k b) ∙ h)

      pub keep_misses : has x (k / I / M) ≡ false
      keep_misses = not_true (has x (k / I / M)) (and_right (marked reached k) (not (has x (k / I / M))) (sym (K.each k b) ∙ h))
