-- A set of outputs narrowed by one input after the other: those that pass a test with each.
--
--   Narrowed rest y   == y are the members of among that pass with the members of x outside rest
--   narrowed-*        : how that begins, goes on by the lowest member of rest, and ends
use Prim.Native.Nat.{ℕ, ◌≤◌, ◌<◌}
use mathlib.Core.Path.{◌≡◌, sym, ◌∙◌, ap}
use mathlib.Core.Bool.{Bool, true, false, ◌&&◌, ◌||◌, not}
use mathlib.Core.Logic.{◌⊎◌, inl, inr, ◌≢◌}
use native.Mathlib.Omega.{arith}
use native.Mathlib.Decide.{ℕ_discrete}
use lib.Dec.{eqb}
use Rattle.finite.specs.Bounded.{all, least, count}
use Rattle.finite.proofs.Truth.{decide, clash, true_of, same_test, and_intro, and_left, and_right, and_cases, or_left, or_right, or_cases, or_false, not_true}
use Rattle.finite.proofs.Bounded.{all_intro, all_elim}
use Rattle.bits.specs.Member.{has, pack}
use Rattle.bits.proofs.Membership.{ext, has_zero_lem, has_lt, pack_lt, has_pack_below}
use Rattle.bits.proofs.Remove.{less_in, less_other, less_falls}
use Rattle.bits.proofs.Visit.{small_word, lowest_in_lem, lowest_less}
use Rattle.sets.specs.Words.{capacity}

-- p j d tells whether output d passes with input j
module _ (p : ℕ → ℕ → Bool) (n m x among : ℕ) where
  pub record Narrowed (rest y : ℕ) : Type 0 where
    pub inside : (j : ℕ) → has rest j ≡ true → has x j ≡ true
    pub right : (d : ℕ) → has y d ≡ true → (has among d ≡ true) × ((j : ℕ) → has x j ≡ true → has rest j ≡ false → p j d ≡ true)
    pub lost : (d : ℕ) → has among d ≡ true → has y d ≡ false → (j : ℕ) × (has x j ≡ true) × (p j d ≡ false)

  pub narrowed_start : Narrowed x among
  narrowed_start = record {
    inside = λ j e. e;
    right = λ d e. (e, λ j h k. clash h k);
    lost = λ d e k. clash e k;
  }

  -- d is one of the outputs and passes with every input of x
  unfoldable pub passes : ℕ → Bool
  passes d = has among d && all n (λ j. not (has x j) || p j d)

  module _ (within : (j : ℕ) → has x j ≡ true → j < n) (most : n ≤ capacity) (outputs : (d : ℕ) → has among d ≡ true → d < m) where
    pub narrowed_members : (rest y : ℕ) → Narrowed rest y → (d : ℕ) → has y d ≡ true → d < m
    narrowed_members rest y N d h = outputs d (N.right d h).0

    -- what passes with every input has not been lost
    passes_in : (rest y : ℕ) → Narrowed rest y → (d : ℕ) → has (pack m passes) d ≡ true → has y d ≡ true
    unfolding passes
    passes_in rest y N d h =
        let b = has_lt m (pack m passes) d (pack_lt m passes) h in
        let found = sym (has_pack_below m passes d b) ∙ h in
        let a = and_left (has among d) (all n (λ j. not (has x j) || p j d)) found in
        let safe = and_right (has among d) (all n (λ j. not (has x j) || p j d)) found in
        true_of (has y d) (λ f.
        let v = N.lost d a f in
        clash (all_elim n (λ j. not (has x j) || p j d) safe v.0 (within v.0 v.1)) (or_false (ap not v.1) v.2))

    module _ (rest y : ℕ) (N : Narrowed rest y) (some : rest ≢ 0) (j : ℕ) (e : j ≡ least capacity (has rest)) where
      small : (s : ℕ) → has rest s ≡ true → s < capacity
      small s h = omega (arith, within s (N.inside s h))

      here : has rest j ≡ true
      here = lowest_in_lem capacity rest j (small_word capacity rest small) some e

      pub narrowed_below : j < n
      narrowed_below = within j (N.inside j here)

      module _ (r : ℕ) (d : (s : ℕ) → has r s ≡ (has rest s && not (eqb s (least capacity (has rest))))) where
        less : (s : ℕ) → has r s ≡ (has rest s && not (eqb s j))
        less = lowest_less capacity rest j r e d

        pub narrowed_falls : count capacity (has r) < count capacity (has rest)
        narrowed_falls = less_falls rest j r less capacity (small j here) here

        pub narrowed_next : (w : ℕ → Bool) (z : ℕ) → ((o : ℕ) → o < m → w o ≡ p j o) → ((o : ℕ) → has z o ≡ (has y o && w o)) → Narrowed r z
        narrowed_next w z q f = record {
          inside = λ i h. N.inside i (less_in rest j r less i h);
          right = λ o h.
              let old = and_left (has y o) (w o) (sym (f o) ∙ h) in
              let won = and_right (has y o) (w o) (sym (f o) ∙ h) in
              ((N.right o old).0, λ i a b. at o old won i a b (ℕ_discrete i j));
          lost = λ o a h.
              elim (and_cases (has y o) (w o) (sym (f o) ∙ h)) [
                | inl k ↦ N.lost o a k
                | inr k ↦ (j, N.inside j here, sym (q o (outputs o a)) ∙ k)
              ];
        }
          where
            at : (o : ℕ) → has y o ≡ true → w o ≡ true → (i : ℕ) → has x i ≡ true → has r i ≡ false → Dec (i ≡ j) → p i o ≡ true
            at o old won i a b (yes k) = ap (λ (v : ℕ). p v o) k ∙ sym (q o (narrowed_members rest y N o old)) ∙ won
            at o old won i a b (no k) = (N.right o old).1 i a (sym (less_other rest j r less i k) ∙ b)

      -- where none of them passes with j, none passes with every input
      pub narrowed_stop : (w : ℕ → Bool) (z : ℕ) → ((o : ℕ) → o < m → w o ≡ p j o) → ((o : ℕ) → has z o ≡ (has y o && w o)) → z ≡ 0 → z ≡ pack m passes
      unfolding passes
      narrowed_stop w z q f e₀ =
          ext z (pack m passes) (λ d. same_test (has z d) (has (pack m passes) d) (λ h. clash h (ap (λ (v : ℕ). has v d) e₀ ∙ has_zero_lem d)) (back d))
        where
          with_j : (d : ℕ) → (not (has x j) || p j d) ≡ true → p j d ≡ true
          with_j d h =
              elim (or_cases (not (has x j)) (p j d) h) [
                | inl k ↦ clash (N.inside j here) (not_true (has x j) k)
                | inr k ↦ k
              ]

          back : (d : ℕ) → has (pack m passes) d ≡ true → has z d ≡ true
          back d h =
              let b = has_lt m (pack m passes) d (pack_lt m passes) h in
              let safe = and_right (has among d) (all n (λ i. not (has x i) || p i d)) (sym (has_pack_below m passes d b) ∙ h) in
              f d ∙ and_intro (passes_in rest y N d h) (q d b ∙ with_j d (all_elim n (λ i. not (has x i) || p i d) safe j narrowed_below))

    pub narrowed_end : (rest y : ℕ) → Narrowed rest y → rest ≡ 0 → y ≡ pack m passes
    unfolding passes
    narrowed_end rest y N z = ext y (pack m passes) (λ d. same_test (has y d) (has (pack m passes) d) (to d) (passes_in rest y N d))
      where
        none : (j : ℕ) → has rest j ≡ false
        none j = ap (λ (v : ℕ). has v j) z ∙ has_zero_lem j

        one : (d : ℕ) → has y d ≡ true → (j : ℕ) → (has x j ≡ true) ⊎ (has x j ≡ false) → (not (has x j) || p j d) ≡ true
        one d h j (inl q) = or_right (not (has x j)) ((N.right d h).1 j q (none j))
        one d h j (inr q) = or_left (p j d) (ap not q)

        to : (d : ℕ) → has y d ≡ true → has (pack m passes) d ≡ true
        to d h =
            let a = (N.right d h).0 in
            has_pack_below m passes d (outputs d a) ∙ and_intro a (all_intro n (λ j. not (has x j) || p j d) (λ j b. one d h j (decide (has x j))))
