-- The pigeonhole principle: of n + 1 numbers below n, two are equal.
use Prim.Native.Nat.{ℕ, zero, suc, ◌≤◌, ◌<◌}
use mathlib.Core.Path.{◌≡◌, refl, sym, ◌∙◌}
use mathlib.Core.Bool.{true, false}
use mathlib.Core.Logic.{◌⊎◌, inl, inr, ◌≢◌}
use native.Mathlib.Omega.{arith}
use lib.Dec.{eqb}
use borrow.Author.Tests.{eqb-true, eqb-false}
use Rattle.finite.specs.Bounded.{any}
use Rattle.finite.proofs.Truth.{decide}
use Rattle.finite.proofs.Bounded.{any_elim, any_false}

-- two places at which a sequence repeats itself
pub record Repeat (f : ℕ → ℕ) (last : ℕ) : Type 0 where
  pub first : ℕ
  pub second : ℕ
  pub before : first < second
  pub within : second ≤ last
  pub same : f first ≡ f second

-- f with the value `top` replaced by the value `v`
redirect : (v top : ℕ) → ℕ → ℕ
redirect v top x = elim (eqb x top) [ true ↦ v | false ↦ x ]

redirect_cases : (v top x : ℕ) → ((x ≡ top) × (redirect v top x ≡ v)) ⊎ ((x ≢ top) × (redirect v top x ≡ x))
unfolding redirect
redirect_cases v top x =
    elim (decide (eqb x top)) [
      | inl e ↦ inl (eqb-true x top e, rw (e, redirect) refl)
      | inr e ↦ inr (eqb-false x top e, rw (e, redirect) refl)
    ]

-- By induction on the number of values. If the last element's value v = f (n + 1) stands among the earlier ones, that is a repeat. Otherwise an
-- earlier element with the value n may take v in its place, and then n + 1 elements have values below n.
pub pigeonhole : (n : ℕ) (f : ℕ → ℕ) → ((k : ℕ) → k ≤ n → f k < n) → Repeat f n
pigeonhole zero f h = absurd (omega (arith, h 0 (omega arith)))
pigeonhole (suc n) f h = go (decide (any (suc n) (λ k. eqb (f k) (f (suc n))))) (pigeonhole n)
  where
    g : ℕ → ℕ
    g k = redirect (f (suc n)) n (f k)

    found : any (suc n) (λ k. eqb (f k) (f (suc n))) ≡ true → Repeat f (suc n)
    found e =
        let w = any_elim (suc n) (λ k. eqb (f k) (f (suc n))) e in
        record {
          first = w.0;
          second = suc n;
          before = w.1;
          within = omega arith;
          same = eqb-true (f w.0) (f (suc n)) w.2;
        }

    fresh : any (suc n) (λ k. eqb (f k) (f (suc n))) ≡ false → (k : ℕ) → k < suc n → f k ≢ f (suc n)
    fresh e k b = eqb-false (f k) (f (suc n)) (any_false (suc n) (λ j. eqb (f j) (f (suc n))) e k b)

    small : any (suc n) (λ k. eqb (f k) (f (suc n))) ≡ false → (k : ℕ) → k ≤ n → g k < n
    small e k b =
        elim (redirect_cases (f (suc n)) n (f k)) [
          | inl c ↦ omega (arith, c.0, c.1, fresh e k (omega arith), h (suc n) (omega arith))
          | inr c ↦ omega (arith, c.0, c.1, h k (omega arith))
        ]

    back : any (suc n) (λ k. eqb (f k) (f (suc n))) ≡ false → (i j : ℕ) → i ≤ n → j ≤ n → g i ≡ g j → f i ≡ f j
    back e i j bi bj q =
        elim (redirect_cases (f (suc n)) n (f i)) [
          | inl c ↦ elim (redirect_cases (f (suc n)) n (f j)) [
            | inl d ↦ c.0 ∙ sym d.0
            | inr d ↦ absurd (fresh e j (omega arith) (sym d.1 ∙ sym q ∙ c.1))
          ]
          | inr c ↦ elim (redirect_cases (f (suc n)) n (f j)) [
            | inl d ↦ absurd (fresh e i (omega arith) (sym c.1 ∙ q ∙ d.1))
            | inr d ↦ sym c.1 ∙ q ∙ d.1
          ]
        ]

    go : (any (suc n) (λ k. eqb (f k) (f (suc n))) ≡ true) ⊎ (any (suc n) (λ k. eqb (f k) (f (suc n))) ≡ false)
        → ((f' : ℕ → ℕ) → ((k : ℕ) → k ≤ n → f' k < n) → Repeat f' n) → Repeat f (suc n)
    go (inl e) rec = found e
    go (inr e) rec =
        let r = rec g (small e) in
        record {
          first = r.first;
          second = r.second;
          before = r.before;
          within = omega (arith, r.within);
          same = back e r.first r.second (omega (arith, r.before, r.within)) r.within r.same;
        }
