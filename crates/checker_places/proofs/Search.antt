-- Searches: legs back along finders, and how what is found shrinks when the search starts later.
--
--   length_extend            : one step more is one longer
--   leg                      : what is found as number k is reached, by at most k steps from what has P
--   queue_none, queue_add    : an empty queue, and one thing more
--   searched_on              : a search from a member of a closed set finds members of it alone
--   pivot_falls              : and fewer of them, where it misses one
use Prim.Native.Nat.{ℕ, zero, suc, ◌≤◌, ◌<◌}
use mathlib.Core.Path.{◌≡◌, refl, sym, ◌∙◌, ap, subst, subst₂}
use mathlib.Core.Logic.{inl, inr}
use mathlib.Core.Bool.{Bool, true, false}
use native.Mathlib.Omega.{arith}
use lib.ListN.{length}
use Rattle.finite.specs.Bounded.{count}
use Rattle.finite.proofs.Bounded.{below_suc, count_less}
use Rattle.graphs.specs.Walk.{Walk, stay, step}
use Rattle.graphs.proofs.Walk.{extend, keep}
use Rattle.graphs.proofs.Measure.{targets}
use Rattle.checker_places.specs.Search.{Closed, Reached, Queue, Searched}

length_extend : {A : Type 0} {R : A → A → Type 0} {a b c : A} (w : Walk R a b) (r : R b c) → length (targets (extend w r)) ≡ suc (length (targets w))
unfolding targets extend
length_extend stay r = refl
length_extend (step q w) r = ap suc (length_extend w r)

module _ {A : Type 0} (P : A → Type 0) (R : A → A → Type 0) (n : ℕ) (q : ℕ → A) (from : ℕ → ℕ) (Q : Queue P R n q from) where
  abbrev Leg : ℕ → Type 0
  Leg k = (r : Reached P R (q k)) × (length (targets r.rest) ≤ k)

  leg_by : (k : ℕ) → k < n → (f : ℕ) → from k ≡ f → ((m : ℕ) → m < k → Leg m) → Leg k
  unfolding targets
  leg_by k b zero e rec = (record { origin = q k; begins = Q.first k b e; rest = stay }, omega arith)
  leg_by k b (suc m) e rec =
      let l : m < k = omega (arith, Q.earlier k b, e) in
      let v = rec m l in
      let t = Q.later k m b e in
      (record { origin = v.0.origin; begins = v.0.begins; rest = extend v.0.rest t }, omega (arith, v.1, length_extend v.0.rest t, l))

  -- each finder stands earlier, so by induction on a bound of k
  leg_below : (f k : ℕ) → k < f → k < n → Leg k
  leg_below zero k l b = absurd (omega arith)
  leg_below (suc f) k l b = leg_by k b (from k) refl (λ m i. leg_below f m (omega (arith, i, l)) (omega (arith, i, b)))

  pub leg : (k : ℕ) → k < n → (r : Reached P R (q k)) × (length (targets r.rest) ≤ k)
  leg k b = leg_below (suc k) k (omega arith) b

-- a queue that grows: the new thing stands at number n, and nothing before it changes
module _ {A : Type 0} (P : A → Type 0) (R : A → A → Type 0) where
  pub queue_none : (q : ℕ → A) (from : ℕ → ℕ) → Queue P R zero q from
  queue_none q from = record { earlier = λ k b. absurd (omega arith); first = λ k b. absurd (omega arith); later = λ k m b. absurd (omega arith) }

  pub queue_add : (n : ℕ) (q p : ℕ → A) (from since : ℕ → ℕ) → Queue P R n q from → ((k : ℕ) → k < n → p k ≡ q k) → ((k : ℕ) → k < n → since k ≡ from k)
      → since n ≤ n → (since n ≡ zero → P (p n)) → ((m : ℕ) → since n ≡ suc m → R (q m) (p n)) → Queue P R (suc n) p since
  queue_add n q p from since Q e f l a r = record {
    earlier = λ k b. elim (below_suc k n b) [ inl i ↦ rw i l | inr i ↦ subst (λ (x : ℕ). x ≤ k) (sym (f k i)) (Q.earlier k i) ];
    first = λ k b z. elim (below_suc k n b) [
      | inl i ↦ subst (λ (x : ℕ). P (p x)) (sym i) (a (ap since (sym i) ∙ z))
      | inr i ↦ subst P (sym (e k i)) (Q.first k i (sym (f k i) ∙ z))
    ];
    later = λ k m b z. elim (below_suc k n b) [
      | inl i ↦ let y : since n ≡ suc m = ap since (sym i) ∙ z in
          subst₂ R (sym (e m (omega (arith, l, y)))) (ap p (sym i)) (r m y)
      | inr i ↦ let y : from k ≡ suc m = sym (f k i) ∙ z in
          subst₂ R (sym (e m (omega (arith, Q.earlier k i, y, i)))) (sym (e k i)) (Q.later k m i y)
    ];
  }

module _ {A : Type 0} (R : A → A → Type 0) (X : A → Bool) where
  searched_on : (u v : A) (F G : A → Bool) → Searched R X u F → Closed R X v G → G u ≡ true → (a : A) → F a ≡ true → G a ≡ true
  searched_on u v F G S C g a h =
      let r = S.reached a h in
      keep (λ (z : A). G z ≡ true) (λ x y i t. C.on x y i t) r.rest (C.on u r.origin g r.begins)

-- A search for the next leg that misses something found before has found less: the measure of the attempts.
pub pivot_falls : (n : ℕ) (R : ℕ → ℕ → Type 0) (X : ℕ → Bool) (u v : ℕ) (F G : ℕ → Bool) → Searched R X u F → Closed R X v G → G u ≡ true
    → (k : ℕ) → k < n → F k ≡ false → G k ≡ true → count n F < count n G
pivot_falls n R X u v F G S C g k b f h = count_less n F G (λ a l i. searched_on R X u v F G S C g a i) k b f h
