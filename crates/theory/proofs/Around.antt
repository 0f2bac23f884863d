-- Going round a counter: how far q lies ahead of g, and what a step forward leaves of that.
use Prim.Native.Nat.{ℕ, ◌+◌, ◌-◌, ◌≤◌, ◌<◌}
use mathlib.Core.Path.{◌≡◌, refl}
use mathlib.Core.Bool.{true, false}
use mathlib.Core.Logic.{◌⊎◌, inl, inr}
use native.Mathlib.Omega.{arith}
use lib.Dec.{ltb}
use borrow.Author.Tests.{ltb-true, ltb-false}
use Rattle.finite.proofs.Truth.{decide}
use Rattle.theory.specs.Tour.{around}

pub around_cases : (m g k : ℕ) → ((g + k < m) × (around m g k ≡ g + k)) ⊎ ((m ≤ g + k) × (around m g k + m ≡ g + k))
unfolding around
around_cases m g k =
    elim (decide (ltb (g + k) m)) [
      | inl e ↦ inl (ltb-true (g + k) m e, rw (e, around) refl)
      | inr e ↦ let b = ltb-false (g + k) m e in inr (b, rw (e, around) (omega arith))
    ]

pub around_below : (m g k : ℕ) → g < m → k ≤ m → around m g k < m
around_below m g k a b = elim (around_cases m g k) [ inl c ↦ omega arith | inr c ↦ omega arith ]

-- how far q lies ahead of g, going round below m
unfoldable pub distance : ℕ → ℕ → ℕ → ℕ
distance m g q = elim (ltb q g) [ true ↦ q + m - g | false ↦ q - g ]

distance_cases : (m g q : ℕ) → g < m → ((q < g) × (distance m g q + g ≡ q + m)) ⊎ ((g ≤ q) × (distance m g q + g ≡ q))
unfolding distance
distance_cases m g q a =
    elim (decide (ltb q g)) [
      | inl e ↦ let b = ltb-true q g e in inl (b, rw (e, distance) (omega arith))
      | inr e ↦ let b = ltb-false q g e in inr (b, rw (e, distance) (omega arith))
    ]

pub distance_below : (m g q : ℕ) → g < m → q < m → distance m g q < m
distance_below m g q a b = elim (distance_cases m g q a) [ inl c ↦ omega arith | inr c ↦ omega arith ]

pub around_distance : (m g q : ℕ) → g < m → q < m → around m g (distance m g q) ≡ q
around_distance m g q a b =
    elim (distance_cases m g q a) [
      | inl c ↦ elim (around_cases m g (distance m g q)) [ inl d ↦ omega arith | inr d ↦ omega arith ]
      | inr c ↦ elim (around_cases m g (distance m g q)) [ inl d ↦ omega arith | inr d ↦ omega arith ]
    ]

pub distance_around : (m g q k : ℕ) → g < m → q < m → k ≤ distance m g q → distance m (around m g k) q + k ≡ distance m g q
distance_around m g q k a b h = go (distance_cases m g q a) (around_cases m g k) (distance_cases m (around m g k) q below)
  where
    below : around m g k < m
    below = around_below m g k a (omega (arith, distance_below m g q a b))

    go : ((q < g) × (distance m g q + g ≡ q + m)) ⊎ ((g ≤ q) × (distance m g q + g ≡ q))
        → ((g + k < m) × (around m g k ≡ g + k)) ⊎ ((m ≤ g + k) × (around m g k + m ≡ g + k))
        → ((q < around m g k) × (distance m (around m g k) q + around m g k ≡ q + m)) ⊎ ((around m g k ≤ q) × (distance m (around m g k) q + around m g k ≡ q))
        → distance m (around m g k) q + k ≡ distance m g q
    go (inl c) (inl d) (inl e) = omega arith
    go (inl c) (inl d) (inr e) = omega arith
    go (inl c) (inr d) (inl e) = omega arith
    go (inl c) (inr d) (inr e) = omega arith
    go (inr c) (inl d) (inl e) = omega arith
    go (inr c) (inl d) (inr e) = omega arith
    go (inr c) (inr d) (inl e) = omega arith
    go (inr c) (inr d) (inr e) = omega arith

pub distance_zero : (m g q : ℕ) → g < m → q < m → distance m g q ≡ 0 → g ≡ q
distance_zero m g q a b h = elim (distance_cases m g q a) [ inl c ↦ omega arith | inr c ↦ omega arith ]

pub around_none : (m g : ℕ) → g < m → around m g 0 ≡ g
around_none m g a = elim (around_cases m g 0) [ inl c ↦ omega arith | inr c ↦ omega arith ]
