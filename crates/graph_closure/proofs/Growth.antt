-- Laws of `grown`: what a row keeps, what it takes in, and no more.
use Prim.Native.Nat.{ℕ, zero, suc, ◌+◌, ◌<◌}
use mathlib.Core.Path.{◌≡◌, refl, sym, ◌∙◌, ap}
use mathlib.Core.Bool.{Bool, true, false, ◌||◌}
use mathlib.Core.List.{List}
use mathlib.Core.Logic.{◌⊎◌, inl, inr}
use native.Mathlib.Numerals.{add-one}
use native.Mathlib.Omega.{arith}
use lib.Bits.{bit_or}
use lib.ListN.{get_or}
use Rattle.finite.proofs.Truth.{decide, or_left, or_right, or_cases, same_test}
use Rattle.finite.proofs.Bounded.{below_suc}
use Rattle.bits.specs.Member.{has}
use Rattle.bits.proofs.Membership.{has_or, ext}
use Rattle.graphs.specs.Rows.{rel}
use Rattle.graph_closure.specs.Sweep.{join_if, grown}

module _ (l : List ℕ) where
  grown_none : (x : ℕ) → grown l zero x ≡ x
  unfolding grown
  grown_none x = refl

  grown_in : (t x : ℕ) → has (grown l t x) t ≡ true → grown l (suc t) x ≡ bit_or (grown l t x) (get_or l t 0)
  unfolding grown join_if
  grown_in t x h = ap (λ (b : Bool). join_if b (grown l t x) (get_or l t 0)) h

  grown_out : (t x : ℕ) → has (grown l t x) t ≡ false → grown l (suc t) x ≡ grown l t x
  unfolding grown join_if
  grown_out t x h = ap (λ (b : Bool). join_if b (grown l t x) (get_or l t 0)) h

  grown_more : (t x u : ℕ) → has (grown l t x) u ≡ true → has (grown l (suc t) x) u ≡ true
  grown_more t x u h =
      elim (decide (has (grown l t x) t)) [
        | inl e ↦ rw (grown_in t x e) (has_or (grown l t x) (get_or l t 0) u ∙ or_left (has (get_or l t 0) u) h)
        | inr e ↦ rw (grown_out t x e) h
      ]

  pub grown_keeps : (t x u : ℕ) → has x u ≡ true → has (grown l t x) u ≡ true
  grown_keeps zero x u h = rw grown_none h
  grown_keeps (suc t) x u h = grown_more t x u (grown_keeps t x u h)

  pub grown_takes : (k x t u : ℕ) → t < k → has x t ≡ true → rel l t u ≡ true → has (grown l k x) u ≡ true
  unfolding rel
  grown_takes zero x t u b m h = absurd (omega arith)
  grown_takes (suc k) x t u b m h = go (below_suc t k b) (grown_takes k x t u)
    where
      go : (t ≡ k) ⊎ (t < k) → (t < k → has x t ≡ true → has (get_or l t 0) u ≡ true → has (grown l k x) u ≡ true) → has (grown l (suc k) x) u ≡ true
      go (inl e) rec =
          let here : has (grown l k x) k ≡ true = grown_keeps k x k (rw e at m) in
          rw (grown_in k x here) (has_or (grown l k x) (get_or l k 0) u ∙ or_right (has (grown l k x) u) (rw e at h))
      go (inr c) rec = grown_more k x u (rec c m h)

  -- what holds of the members of x and passes from a member to its row holds of every member
  pub grown_sound : (p : ℕ → Bool) (k : ℕ) → ((t u : ℕ) → t < k → p t ≡ true → rel l t u ≡ true → p u ≡ true)
      → (x : ℕ) → ((u : ℕ) → has x u ≡ true → p u ≡ true) → (u : ℕ) → has (grown l k x) u ≡ true → p u ≡ true
  unfolding rel
  grown_sound p zero closed x h u m = h u (rw grown_none at m)
  grown_sound p (suc k) closed x h u m = go (decide (has (grown l k x) k)) (grown_sound p k (λ t v b. closed t v (omega arith)) x h)
    where
      go : (has (grown l k x) k ≡ true) ⊎ (has (grown l k x) k ≡ false) → ((v : ℕ) → has (grown l k x) v ≡ true → p v ≡ true) → p u ≡ true
      go (inl e) rec =
          elim (or_cases (has (grown l k x) u) (has (get_or l k 0) u) (sym (has_or (grown l k x) (get_or l k 0) u) ∙ rw (grown_in k x e) at m)) [
            | inl a ↦ rec u a
            | inr a ↦ closed k u (omega arith) (rec k e) a
          ]
      go (inr e) rec = rec u (rw (grown_out k x e) at m)

  -- a set that holds the rows of its members stays as it is
  pub grown_same : (n x : ℕ) → ((t u : ℕ) → t < n → has x t ≡ true → rel l t u ≡ true → has x u ≡ true) → grown l n x ≡ x
  grown_same n x h =
      ext (grown l n x) x (λ u. same_test (has (grown l n x) u) (has x u) (grown_sound (has x) n h x (λ v m. m) u) (grown_keeps n x u))

-- ---- the turns of `joined`

module _ (l : List ℕ) (x : ℕ) where
  pub grown_start : x ≡ grown l 0 x
  grown_start = sym (grown_none l x)

  pub grown_member : {y r : ℕ} (t : ℕ) → y ≡ grown l t x → has y t ≡ true → ((u : ℕ) → has r u ≡ (has y u || has (get_or l t 0) u))
      → r ≡ grown l (t + 1) x
  grown_member {y} {r} t e m h =
      ext r (bit_or y (get_or l t 0)) (λ u. h u ∙ sym (has_or y (get_or l t 0) u)) ∙ ap (λ (k : ℕ). bit_or k (get_or l t 0)) e
      ∙ sym (grown_in l t x (ap (λ (k : ℕ). has k t) (sym e) ∙ m)) ∙ ap (λ (k : ℕ). grown l k x) (sym (add-one t))

  pub grown_other : {y : ℕ} (t : ℕ) → y ≡ grown l t x → has y t ≡ false → y ≡ grown l (t + 1) x
  grown_other {y} t e m =
      e ∙ sym (grown_out l t x (ap (λ (k : ℕ). has k t) (sym e) ∙ m)) ∙ ap (λ (k : ℕ). grown l k x) (sym (add-one t))
