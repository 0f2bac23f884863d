-- Ranges of time. No play is named here.
--
--   Between p t u      == p holds at some time from t on and before u
--   Window p l t       == a later time before which p a has held, from t on, of every a in l
--   window             : where each p a recurs there is one from every time on
--   Return next v n    == two times from n on at which v is the same, the second not before what next makes of the first
--   returns            : there are such times where next makes later times and v has finitely many values
--   steps_end          : k steps of one from t end at t + k
--   trail_late         : no time that they pass is before t
--   trail_passes       : they pass every time from t to t + k
use Prim.Native.Nat.{ℕ, zero, suc, ◌+◌, ◌-◌, ◌≤◌, ◌<◌}
use mathlib.Core.Path.{◌≡◌, refl, ◌∙◌, ap}
use mathlib.Core.Bool.{Bool, true}
use mathlib.Core.List.Memᴰ
use mathlib.Core.List.{List, [], ◌∷◌, Memᴰ}
use mathlib.Core.Logic.{◌⊎◌, inl, inr}
use native.Mathlib.Omega.{arith}
use native.Mathlib.Decide.{ℕ_discrete}
use Rattle.finite.proofs.Pigeonhole.{pigeonhole}
use Rattle.graphs.proofs.Walk.{iterate, iterate_add, trail}
use Rattle.endless.specs.Endless.{Later, Recurs}

-- p holds at some time of the stretch from t on and before u
pub record Between (p : ℕ → Bool) (t u : ℕ) : Type 0 where
  pub at : ℕ
  pub late : t ≤ at
  pub early : at < u
  pub here : p at ≡ true

-- what holds within a stretch holds within one that begins sooner
between_sooner : {p : ℕ → Bool} {t u k : ℕ} → k ≤ t → Between p t u → Between p k u
between_sooner b w = record { at = w.at; late = omega (arith, b, w.late); early = w.early; here = w.here }

module _ {A : Type 0} (p : A → ℕ → Bool) where
  -- a time after t before which p has held, from t on, of all of the list
  pub record Window (l : List A) (t : ℕ) : Type 0 where
    pub until : ℕ
    pub on : t < until
    pub sees : (a : A) → Memᴰ a l → Between (p a) t until

  -- one for a longer list: after a time at which p holds of the first, one for the rest
  window_more : (a : A) (l : List A) (t : ℕ) (first : Later (p a) t) → Window l (suc first.at) → Window (a ∷ l) t
  window_more a l t first rest = record {
    until = rest.until;
    on = omega (arith, first.late, rest.on);
    sees = λ b m. sees b (Memᴰ.cases_cons m);
  }
    where
      sees : (b : A) → (b ≡ a) ⊎ Memᴰ b l → Between (p b) t rest.until
      sees b (inl e) = rw e (record { at = first.at; late = omega (arith, first.late); early = omega (arith, rest.on); here = first.here })
      sees b (inr m) = between_sooner (omega (arith, first.late)) (rest.sees b m)

  -- where p recurs for each of the list: one after the other
  pub window : (l : List A) → ((a : A) → Memᴰ a l → Recurs (p a)) → (t : ℕ) → Window l t
  window [] h t = record { until = suc t; on = omega arith; sees = λ a m. absurd (Memᴰ.not-nil m) }
  window (a ∷ l) h t =
      let first = h a (Memᴰ.head refl) t in
      window_more a l t first (window l (λ b m. h b (Memᴰ.tail m)) (suc first.at))

-- two times from n on at which v is the same, the second not before what next makes of the first
pub record Return (next v : ℕ → ℕ) (n : ℕ) : Type 0 where
  pub from : ℕ
  pub to : ℕ
  pub late : n ≤ from
  pub covers : next from ≤ to
  pub same : v from ≡ v to

module _ (next : ℕ → ℕ) (on : (t : ℕ) → t < next t) where
  -- what next makes, k times over, is not sooner
  rises : (k t : ℕ) → t ≤ iterate next k t
  unfolding iterate
  rises zero t = omega arith
  rises (suc k) t = omega (arith, on t, rises k (next t))

  -- two of the times n, next n, next (next n), .. with the same value
  return_from : (v : ℕ → ℕ) (n a k : ℕ) → v (iterate next a n) ≡ v (iterate next (a + suc k) n) → Return next v n
  unfolding iterate
  return_from v n a k e = record {
    from = iterate next a n;
    to = iterate next k (next (iterate next a n));
    late = rises a n;
    covers = rises k (next (iterate next a n));
    same = e ∙ ap v (iterate_add next a (suc k) n);
  }

  -- of those times, one more than v has values, two have the same
  pub returns : (v : ℕ → ℕ) (N : ℕ) → ((t : ℕ) → v t < N) → (n : ℕ) → Return next v n
  returns v N below n =
      let r = pigeonhole N (λ k. v (iterate next k n)) (λ k b. below (iterate next k n)) in
      let split : r.second ≡ r.first + suc (r.second - suc r.first) = omega (arith, r.before) in
      return_from v n r.first (r.second - suc r.first) (r.same ∙ ap (λ (k : ℕ). v (iterate next k n)) split)

-- k steps of one from t end at t + k
pub steps_end : (k t : ℕ) → iterate suc k t ≡ t + k
unfolding iterate
steps_end zero t = omega arith
steps_end (suc k) t = steps_end k (suc t) ∙ omega arith

-- no time that they pass is before t
pub trail_late : (k t m : ℕ) → Memᴰ m (trail suc k t) → t ≤ m
unfolding trail
trail_late zero t m h = elim (Memᴰ.cases_cons h) [ inl e ↦ omega (arith, e) | inr n ↦ absurd (Memᴰ.not-nil n) ]
trail_late (suc k) t m h = elim (Memᴰ.cases_cons h) [ inl e ↦ omega (arith, e) | inr n ↦ omega (arith, trail_late k (suc t) m n) ]

-- they pass every time from t to t + k
pub trail_passes : (k t m : ℕ) → t ≤ m → m ≤ t + k → Memᴰ m (trail suc k t)
unfolding trail
trail_passes zero t m a b = let e : m ≡ t = omega (arith, a, b) in Memᴰ.head e
trail_passes (suc k) t m a b =
    elim (ℕ_discrete m t) [
      | yes e ↦ Memᴰ.head e
      | no d ↦ Memᴰ.tail (trail_passes k (suc t) m (omega (arith, a, d)) (omega (arith, b)))
    ]
