-- A search's queue and marks while it goes on.
--
--   listed_none        : nothing is found yet
--   listed_add         : one number more is found
use Prim.Native.Nat.{ℕ, zero, suc, ◌≤◌, ◌<◌}
use mathlib.Core.Path.{◌≡◌, refl, sym, ◌∙◌, ap, subst}
use mathlib.Core.Bool.{Bool, true, false, ◌||◌}
use mathlib.Core.Logic.{◌⊎◌, inl, inr}
use native.Mathlib.Omega.{arith}
use lib.Dec.{eqb}
use borrow.Author.Tests.{eqb-true, eq-eqb}
use Rattle.finite.specs.Bounded.{count}
use Rattle.finite.proofs.Truth.{clash, or_left, or_right, or_cases}
use Rattle.finite.proofs.Bounded.{below_suc, count_less}
use Rattle.checker_places.specs.Search.{Listed}
use Rattle.checker_places.proofs.Search.{queue_none, queue_add}

module _ (P : ℕ → Type 0) (R : ℕ → ℕ → Type 0) (N : ℕ) where
  pub listed_none : (q from : ℕ → ℕ) (mark : ℕ → Bool) → ((a : ℕ) → mark a ≡ false) → Listed P R N zero q from mark
  listed_none q from mark h = record {
    queue = queue_none P R q from;
    known = λ k b. absurd (omega arith);
    found = λ a m. clash m (h a);
    below = λ a m. clash m (h a);
    few = omega arith;
  }

  module _ (n : ℕ) (q from : ℕ → ℕ) (mark : ℕ → Bool) (L : Listed P R N n q from mark) where
    -- the number a is marked and put behind the others, with its finder
    pub listed_add : (a : ℕ) → a < N → mark a ≡ false → (p since : ℕ → ℕ) (next : ℕ → Bool)
        → ((k : ℕ) → k < n → p k ≡ q k) → p n ≡ a → ((k : ℕ) → k < n → since k ≡ from k) → since n ≤ n
        → (since n ≡ zero → P a) → ((m : ℕ) → since n ≡ suc m → R (q m) a) → ((k : ℕ) → next k ≡ (mark k || eqb k a)) → Listed P R N (suc n) p since next
    listed_add a b h p since next e f g l s r m = record {
      queue = queue_add P R n q p from since L.queue e g l (λ z. subst P (sym f) (s z)) (λ k z. subst (R (q k)) (sym f) (r k z));
      known = λ k c. m (p k) ∙ known k (below_suc k n c);
      found = λ k c. found k (or_cases (mark k) (eqb k a) (sym (m k) ∙ c));
      below = λ k c. below k (or_cases (mark k) (eqb k a) (sym (m k) ∙ c));
      few = omega (arith, L.few, more);
    }
      where
        known : (k : ℕ) → (k ≡ n) ⊎ (k < n) → (mark (p k) || eqb (p k) a) ≡ true
        known k (inl i) = or_right (mark (p k)) (eq-eqb (p k) a (ap p i ∙ f))
        known k (inr i) = or_left (eqb (p k) a) (ap mark (e k i) ∙ L.known k i)

        found : (k : ℕ) → (mark k ≡ true) ⊎ (eqb k a ≡ true) → (i : ℕ) × (i < suc n) × (p i ≡ k)
        found k (inl i) = let v = L.found k i in (v.0, omega (arith, v.1), e v.0 v.1 ∙ v.2)
        found k (inr i) = (n, omega arith, f ∙ sym (eqb-true k a i))

        below : (k : ℕ) → (mark k ≡ true) ⊎ (eqb k a ≡ true) → k < N
        below k (inl i) = L.below k i
        below k (inr i) = subst (λ (x : ℕ). x < N) (sym (eqb-true k a i)) b

        more : count N mark < count N next
        more = count_less N mark next (λ k c i. m k ∙ or_left (eqb k a) i) a b h (m a ∙ or_right (mark a) (eq-eqb a a refl))
