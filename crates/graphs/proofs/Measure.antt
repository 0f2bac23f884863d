-- Walks and a measure: a walk each of whose moves lands in a set or lowers a number lands within that many moves, and a closed one lands in any case.
--
--   targets w       == what the walk enters, its beginning left out
--   lands           : such a walk enters the set, or has at most as many moves as the number it began with
--   finds           : what holds where the walk begins and is kept by its moves holds of whatever it passes
use Prim.Native.Nat.{ℕ, suc, ◌+◌, ◌≤◌, ◌<◌}
use mathlib.Core.Path.{◌≡◌, refl, ap}
use mathlib.Core.Bool.{Bool, true, false, ◌||◌}
use mathlib.Core.List.{List, [], ◌∷◌}
use mathlib.Core.Logic.{◌⊎◌, inl, inr}
use native.Mathlib.Omega.{arith}
use lib.ListN.{length}
use Rattle.finite.specs.Lists.{any_of}
use Rattle.finite.proofs.Truth.{clash, or_left, or_right, or_cases}
use Rattle.graphs.specs.Walk.{Walk, stay, step, passed}

module _ {A : Type 0} {R : A → A → Type 0} where
  unfoldable pub targets : {a b : A} → Walk R a b → List A
  targets stay = []
  targets (step {b = b} r w) = b ∷ targets w

  pub passed_targets : {a b : A} (w : Walk R a b) → passed w ≡ a ∷ targets w
  unfolding passed targets
  passed_targets stay = refl
  passed_targets (step {a = a} r w) = ap (λ (l : List A). a ∷ l) (passed_targets w)

  -- a walk is over, or has a first move
  pub first_step : {a b : A} → Walk R a b → (a ≡ b) ⊎ ((c : A) × R a c × Walk R c b)
  first_step stay = inl refl
  first_step (step {b = c} r w) = inr (c, r, w)

  module _ (e : A) (I : A → Type 0) (p : A → Bool) (μ : A → ℕ)
      (turn : (a b : A) → I a → R a b → Walk R b e → I b × ((p b ≡ true) ⊎ (μ b < μ a))) where
    pub lands : {a : A} (w : Walk R a e) → I a → (any_of p (targets w) ≡ true) ⊎ (length (targets w) + μ e ≤ μ a)
    unfolding targets any_of
    lands stay i = inr (omega arith)
    lands (step {a = a} {b = b} r w) i = go (turn a b i r w) (lands w (turn a b i r w).0)
      where
        go : I b × ((p b ≡ true) ⊎ (μ b < μ a)) → (any_of p (targets w) ≡ true) ⊎ (length (targets w) + μ e ≤ μ b)
            → ((p b || any_of p (targets w)) ≡ true) ⊎ (suc (length (targets w)) + μ e ≤ μ a)
        go t rec =
            elim t.1 [
              | inl h ↦ inl (or_left (any_of p (targets w)) h)
              | inr h ↦ elim rec [ inl k ↦ inl (or_right (p b) k) | inr k ↦ inr (omega arith) ]
            ]

  module _ (e : A) (I : A → Type 0) (turn : (a b : A) → I a → R a b → Walk R b e → I b) where
    pub finds : (p : A → Bool) {a : A} (w : Walk R a e) → I a → any_of p (passed w) ≡ true → (c : A) × I c × (p c ≡ true)
    unfolding passed any_of
    finds p (stay {a = a}) i h = elim (or_cases (p a) false h) [ inl k ↦ (a, i, k) | inr k ↦ clash k refl ]
    finds p (step {a = a} {b = b} r w) i h = go (or_cases (p a) (any_of p (passed w)) h) (λ k. finds p w (turn a b i r w) k)
      where
        go : (p a ≡ true) ⊎ (any_of p (passed w) ≡ true) → (any_of p (passed w) ≡ true → (c : A) × I c × (p c ≡ true)) → (c : A) × I c × (p c ≡ true)
        go (inl k) rec = (a, i, k)
        go (inr k) rec = rec k
