-- Laws of runs.
--
--   latest_le, latest_at, latest_self : the latest member of a set
--   begins_first, begins_apart, begins_other : the test of one input
--   runs_of         : the inputs at which a run begins have the runs
--   runs_alone      : and so have all inputs
--   spread_part     : what is asked of those that begin a run is part of them
--   spread_all      : and what the row alone decides holds of each input of their runs
--   spread_alone    : where each input begins a run of its own
--   Spreading       == run after run: `rest` are the runs that are left, y has the inputs of those before whose run begins in x
--   spreading-*     : how that begins, goes on and ends
use Prim.Native.Nat.{ℕ, zero, suc, ◌-◌, ◌^◌, ◌≤◌, ◌<◌}
use mathlib.Core.Path.{◌≡◌, refl, sym, ◌∙◌, ap}
use mathlib.Core.Bool.{Bool, true, false, not, ◌&&◌, ◌||◌}
use mathlib.Core.List.{List}
use mathlib.Core.Logic.{◌⊎◌, inl, inr, ◌≢◌}
use native.Mathlib.Omega.{arith}
use native.Mathlib.Decide.{ℕ_discrete, dec_lt}
use lib.Dec.{eqb, ltb}
use borrow.Author.Tests.{eqb-true, eq-eqb, lt-ltb, ltb-true, ltb-false, le-ltb}
use Rattle.finite.specs.Bounded.{least, count}
use Rattle.finite.proofs.Truth.{
  decide,
  clash,
  false_of,
  same_test,
  and_intro,
  and_left,
  and_right,
  and_false_left,
  and_false_right,
  or_left,
  or_right,
  or_none,
  or_false,
  or_false_left,
  or_false_right,
  not_true,
  not_false,
}
use Rattle.finite.proofs.Bounded.{least_member, least_at_most}
use Rattle.bits.specs.Member.{has, within, pack}
use Rattle.bits.proofs.Membership.{ext, has_zero_lem, has_pack, has_pack_below, pack_ext, within_has, has_within}
use Rattle.bits.proofs.Visit.{small_word, lowest_below, lowest_in_lem, lowest_less}
use Rattle.bits.proofs.Remove.{less_in, less_out, less_other, less_falls}
use Rattle.sets.specs.Words.{capacity}
use Rattle.scratch.specs.Stored.{row_at}
use Rattle.region_runs.specs.Runs.{begins_at, latest, Runs, spread_at}

latest_here : (f j : ℕ) → has f (suc j) ≡ true → latest f (suc j) ≡ suc j
unfolding latest
latest_here f j e = rw (e, latest) refl

latest_before : (f j : ℕ) → has f (suc j) ≡ false → latest f (suc j) ≡ latest f j
unfolding latest
latest_before f j e = rw (e, latest) refl

latest_le : (f j : ℕ) → latest f j ≤ j
unfolding latest
latest_le f zero = omega arith
latest_le f (suc j) =
    let before = latest_le f j in
    elim (decide (has f (suc j))) [
      | inl e ↦ omega (arith, latest_here f j e)
      | inr e ↦ omega (arith, latest_before f j e, before)
    ]

latest_at : (f b t : ℕ) → has f b ≡ true → b ≤ t → ((u : ℕ) → b < u → u ≤ t → has f u ≡ false) → latest f t ≡ b
unfolding latest
latest_at f b zero e l h = omega arith
latest_at f b (suc t) e l h = go (ℕ_discrete b (suc t)) (λ k. latest_at f b t e k (λ u a c. h u a (omega (arith, c))))
  where
    go : Dec (b ≡ suc t) → (b ≤ t → latest f t ≡ b) → latest f (suc t) ≡ b
    go (yes z) again = latest_here f t (rw z at e) ∙ sym z
    go (no z) again = latest_before f t (h (suc t) (omega (arith, z, l)) (omega arith)) ∙ again (omega (arith, z, l))

latest_self : (f t : ℕ) → has f t ≡ true → latest f t ≡ t
latest_self f t e = latest_at f t t e (omega arith) (λ u a c. absurd (omega (arith, a, c)))

-- ---- the test of one input

module _ (s : List ℕ) (n c j : ℕ) where
  pub begins_first : j ≡ 0 → true ≡ begins_at s n c j
  unfolding begins_at
  begins_first z = sym (or_left (not (has c (j - 1)) || not (eqb (row_at s n (j - 1)) (row_at s n j))) (eq-eqb j 0 z))

  pub begins_apart : has c (j - 1) ≡ false → true ≡ begins_at s n c j
  unfolding begins_at
  begins_apart e = sym (or_right (eqb j 0) (or_left (not (eqb (row_at s n (j - 1)) (row_at s n j))) (ap not e)))

  pub begins_other : {b : Bool} → j ≢ 0 → has c (j - 1) ≡ true → b ≡ eqb (row_at s n (j - 1)) (row_at s n j) → not b ≡ begins_at s n c j
  unfolding begins_at
  begins_other {b} z e h = rw (false_of (eqb j 0) (λ q. z (eqb-true j 0 q)), e, sym h) refl

-- where none begins the input before is one of c, with the same row
runs_before : (s : List ℕ) (n c j : ℕ) → begins_at s n c j ≡ false → (has c (j - 1) ≡ true) × (row_at s n (j - 1) ≡ row_at s n j)
unfolding begins_at
runs_before s n c j e =
    let rest = or_false_right (eqb j 0) (not (has c (j - 1)) || not (eqb (row_at s n (j - 1)) (row_at s n j))) e in (
      not_false (has c (j - 1)) (or_false_left (not (has c (j - 1))) (not (eqb (row_at s n (j - 1)) (row_at s n j))) rest),
      eqb-true (row_at s n (j - 1)) (row_at s n j)
          (not_false (eqb (row_at s n (j - 1)) (row_at s n j)) (or_false_right (not (has c (j - 1))) (not (eqb (row_at s n (j - 1)) (row_at s n j))) rest)),
    )

module _ (s : List ℕ) (n c f : ℕ) (F : f ≡ pack n (λ j. has c j && begins_at s n c j)) where
  first_at : (j : ℕ) → j < n → has f j ≡ (has c j && begins_at s n c j)
  first_at j l = ap (λ (k : ℕ). has k j) F ∙ has_pack_below n (λ k. has c k && begins_at s n c k) j l

  run_at : (j : ℕ) → j < n → has c j ≡ true → (has f (latest f j) ≡ true) × (row_at s n (latest f j) ≡ row_at s n j)
  run_at zero l e =
      let here = first_at zero l ∙ and_intro e (sym (begins_first s n c zero refl)) in
      rw (latest_self f zero here) (here, refl)
  run_at (suc i) l e = go (decide (has f (suc i))) (λ b. run_at i (omega (arith, l)) b)
    where
      go : (has f (suc i) ≡ true) ⊎ (has f (suc i) ≡ false)
          → (has c i ≡ true → (has f (latest f i) ≡ true) × (row_at s n (latest f i) ≡ row_at s n i))
          → (has f (latest f (suc i)) ≡ true) × (row_at s n (latest f (suc i)) ≡ row_at s n (suc i))
      go (inl here) again = rw (latest_self f (suc i) here) (here, refl)
      go (inr none) again =
          let unbegun = false_of (begins_at s n c (suc i)) (λ b. clash (first_at (suc i) l ∙ and_intro e b) none) in
          let down : suc i - 1 ≡ i = omega arith in
          let last = rw down at (runs_before s n c (suc i) unbegun) in
          let before = again last.0 in
          rw (latest_before f i none) (before.0, before.1 ∙ last.1)

  pub runs_of : Runs s n c f
  runs_of = record {
    below = has_within f n (λ j h. pack_under j (sym (ap (λ (k : ℕ). has k j) F) ∙ h));
    begun = λ j l e. (run_at j l e).0;
    same = λ j l e. (run_at j l e).1;
  }
    where
      pack_under : (j : ℕ) → has (pack n (λ k. has c k && begins_at s n c k)) j ≡ true → j < n
      pack_under j h =
          ltb-true j n (and_left (ltb j n) (has c j && begins_at s n c j) (sym (has_pack n (λ k. has c k && begins_at s n c k) j) ∙ h))

-- each input of c below n begins a run: f are these inputs, and b all states below n
pub runs_alone : (s : List ℕ) (n c b f : ℕ) → ((t : ℕ) → has b t ≡ ltb t n) → ((t : ℕ) → has f t ≡ (has c t && has b t)) → Runs s n c f
runs_alone s n c b f B F = record {
  below = has_within f n (λ t h. ltb-true t n (sym (B t) ∙ and_right (has c t) (has b t) (sym (F t) ∙ h)));
  begun = λ j l e. ap (has f) (latest_self f j (mine j l e)) ∙ mine j l e;
  same = λ j l e. ap (row_at s n) (latest_self f j (mine j l e));
}
  where
    mine : (j : ℕ) → j < n → has c j ≡ true → has f j ≡ true
    mine j l e = F j ∙ and_intro e (B j ∙ lt-ltb j n l)

-- ---- what the row alone decides

pub spread_part : (n f x : ℕ) (q : ℕ → Bool) → x ≡ pack n (λ j. has f j && q j) → (t : ℕ) → has x t ≡ true → has f t ≡ true
spread_part n f x q e t h =
    and_left (has f t) (q t)
    (and_right (ltb t n) (has f t && q t) (sym (has_pack n (λ j. has f j && q j) t) ∙ sym (ap (λ (k : ℕ). has k t) e) ∙ h))

pub spread_all : (s : List ℕ) (n c f x : ℕ) → Runs s n c f → (q : ℕ → Bool) → ((i j : ℕ) → row_at s n i ≡ row_at s n j → q i ≡ q j)
    → x ≡ pack n (λ j. has f j && q j) → {y : ℕ} → y ≡ pack n (spread_at c f x) → y ≡ pack n (λ j. has c j && q j)
unfolding spread_at
spread_all s n c f x R q same e g = g ∙ pack_ext n (λ j. has c j && has x (latest f j)) (λ j. has c j && q j) (λ j l. at j l (decide (has c j)))
  where
    at : (j : ℕ) → j < n → (has c j ≡ true) ⊎ (has c j ≡ false) → (has c j && has x (latest f j)) ≡ (has c j && q j)
    at j l (inr h) = and_false_left (has x (latest f j)) h ∙ sym (and_false_left (q j) h)
    at j l (inl h) =
        ap (λ (b : Bool). has c j && b)
        (ap (λ (k : ℕ). has k (latest f j)) e
        ∙ has_pack_below n (λ k. has f k && q k) (latest f j) (omega (arith, l, latest_le f j))
        ∙ ap (λ (b : Bool). b && q (latest f j)) (R.begun j l h)
        ∙ same (latest f j) j (R.same j l h))

-- each input of c below n begins a run: a are these inputs, and b all states below n
pub spread_alone : (n c f x b a : ℕ) → ((t : ℕ) → has b t ≡ ltb t n) → ((t : ℕ) → has a t ≡ (has c t && has b t)) → f ≡ a
    → ((t : ℕ) → has x t ≡ true → has f t ≡ true) → x ≡ pack n (spread_at c f x)
unfolding spread_at
spread_alone n c f x b a B A e sub =
    ext x (pack n (spread_at c f x)) (λ t. same_test (has x t) (has (pack n (spread_at c f x)) t) (to t) (back t))
  where
    of : (t : ℕ) → has f t ≡ (has c t && has b t)
    of t = ap (λ (k : ℕ). has k t) e ∙ A t

    to : (t : ℕ) → has x t ≡ true → has (pack n (spread_at c f x)) t ≡ true
    to t h =
        let mine = sym (of t) ∙ sub t h in
        has_pack n (spread_at c f x) t
        ∙ and_intro (sym (B t) ∙ and_right (has c t) (has b t) mine)
        (and_intro (and_left (has c t) (has b t) mine) (ap (has x) (latest_self f t (sub t h)) ∙ h))

    back : (t : ℕ) → has (pack n (spread_at c f x)) t ≡ true → has x t ≡ true
    back t h =
        let inside = sym (has_pack n (spread_at c f x) t) ∙ h in
        let both = and_right (ltb t n) (has c t && has x (latest f t)) inside in
        let mine = of t ∙ and_intro (and_left (has c t) (has x (latest f t)) both) (B t ∙ and_left (ltb t n) (has c t && has x (latest f t)) inside) in
        sym (ap (has x) (latest_self f t mine)) ∙ and_right (has c t) (has x (latest f t)) both

-- ---- run after run

pub record Spreading (f x a rest y : ℕ) : Type 0 where
  pub left : (t : ℕ) → has rest t ≡ (has f t && not (ltb t (least capacity (has rest))))
  pub done : (t : ℕ) → has y t ≡ ((has a t && ltb t (least capacity (has rest))) && has x (latest f t))

module _ (n f x a : ℕ) (few : n ≤ capacity) (inside : within f n ≡ true) (sub : (t : ℕ) → has x t ≡ true → has f t ≡ true) where
  pub spreading_start : Spreading f x a f 0
  spreading_start = record { left = left; done = λ t. has_zero_lem t ∙ sym (none t) }
    where
      left : (t : ℕ) → has f t ≡ (has f t && not (ltb t (least capacity (has f))))
      left t =
          same_test (has f t) (has f t && not (ltb t (least capacity (has f))))
          (λ h. and_intro h (ap not (le-ltb t (least capacity (has f)) (least_at_most capacity (has f) t h))))
          (λ h. and_left (has f t) (not (ltb t (least capacity (has f)))) h)

      none : (t : ℕ) → ((has a t && ltb t (least capacity (has f))) && has x (latest f t)) ≡ false
      none t =
          false_of ((has a t && ltb t (least capacity (has f))) && has x (latest f t))
          (λ h.
          let low = and_right (has a t) (ltb t (least capacity (has f))) (and_left (has a t && ltb t (least capacity (has f))) (has x (latest f t)) h) in
          let mine = sub (latest f t) (and_right (has a t && ltb t (least capacity (has f))) (has x (latest f t)) h) in
          let under = ltb-true t (least capacity (has f)) low in
          absurd (omega (arith, under, latest_le f t, least_at_most capacity (has f) (latest f t) mine)))

  module _ (rest y : ℕ) (S : Spreading f x a rest y) (ne : rest ≢ 0) (j : ℕ) (e : j ≡ least capacity (has rest)) where
    of_f : (t : ℕ) → has rest t ≡ true → has f t ≡ true
    of_f t h = and_left (has f t) (not (ltb t (least capacity (has rest)))) (sym (S.left t) ∙ h)

    small : rest < 2 ^ capacity
    small = small_word capacity rest (λ t h. omega (arith, few, within_has f n t inside (of_f t h)))

    pub spreading_below : j < capacity
    spreading_below = lowest_below capacity rest j small ne e

    first_in : has rest j ≡ true
    first_in = lowest_in_lem capacity rest j small ne e

    -- r is rest without its lowest member, k the lowest of what is left
    module _ (r : ℕ) (d : (t : ℕ) → has r t ≡ (has rest t && not (eqb t (least capacity (has rest))))) (k : ℕ) (m : k ≡ least capacity (has r)) where
      less : (t : ℕ) → has r t ≡ (has rest t && not (eqb t j))
      less = lowest_less capacity rest j r e d

      pub spreading_falls : count capacity (has r) < count capacity (has rest)
      spreading_falls = less_falls rest j r less capacity spreading_below first_in

      after : j < k
      after =
          go (ℕ_discrete k j) (dec_lt k j)
        where
          go : Dec (k ≡ j) → Dec (k < j) → j < k
          go (yes z) l = absurd (clash (in_r z) out)
            where
              out : has r j ≡ false
              out = less_out rest j r less

              in_r : k ≡ j → has r j ≡ true
              in_r q = rw (sym q) (rw m (least_member capacity (has r) (omega (arith, spreading_below, m, q))))
          go (no z) (yes l) = absurd (omega (arith, l, e, least_at_most capacity (has rest) k (less_in rest j r less k there)))
            where
              there : has r k ≡ true
              there = rw m (least_member capacity (has r) (omega (arith, spreading_below, m, l)))
          go (no z) (no l) = omega (arith, z, l)

      -- from j on and below k the run is that of j
      run : (t : ℕ) → j ≤ t → t < k → latest f t ≡ j
      run t l b =
          latest_at f j t (of_f j first_in) l
          (λ u c h. false_of (has f u)
          (λ q.
          let left = S.left u ∙ and_intro q (ap not (le-ltb u (least capacity (has rest)) (omega (arith, c, e)))) in
          let still = less_other rest j r less u (λ z. absurd (omega (arith, c, z))) ∙ left in
          absurd (omega (arith, h, b, m, least_at_most capacity (has r) u still))))

      pub spreading_next : (w : ℕ) → ((t : ℕ) → has w t ≡ (has a t && (not (ltb t j) && ltb t k))) → {b : Bool} → b ≡ has x j
          → {z : ℕ} → ((t : ℕ) → has z t ≡ (has y t || (b && has w t))) → Spreading f x a r z
      spreading_next w W {b} B {z} Z = record { left = left; done = done }
        where
          left : (t : ℕ) → has r t ≡ (has f t && not (ltb t (least capacity (has r))))
          left t =
              same_test (has r t) (has f t && not (ltb t (least capacity (has r))))
              (λ h. and_intro (of_f t (less_in rest j r less t h)) (ap not (le-ltb t (least capacity (has r)) (least_at_most capacity (has r) t h))))
              (λ h.
              let past = ltb-false t (least capacity (has r)) (not_true (ltb t (least capacity (has r))) (and_right (has f t) _ h)) in
              let still = S.left t ∙ and_intro (and_left (has f t) _ h) (ap not (le-ltb t (least capacity (has rest)) (omega (arith, past, after, e, m)))) in
              less_other rest j r less t (λ q. absurd (omega (arith, past, after, m, q))) ∙ still)

          done : (t : ℕ) → has z t ≡ ((has a t && ltb t (least capacity (has r))) && has x (latest f t))
          done t = go (dec_lt t j) (dec_lt t k)
            where
              later : j ≤ t → has y t ≡ false
              later l =
                  S.done t
                  ∙ and_false_left (has x (latest f t)) (and_false_right (has a t) (le-ltb t (least capacity (has rest)) (omega (arith, l, e))))

              mine : (p q : Bool) → (false || (q && (p && (not false && true)))) ≡ ((p && true) && q)
              mine true true = refl
              mine true false = refl
              mine false true = refl
              mine false false = refl

              go : Dec (t < j) → Dec (t < k) → has z t ≡ ((has a t && ltb t (least capacity (has r))) && has x (latest f t))
              go (yes l) u =
                  Z t
                  ∙ or_none (has y t) (and_false_right b (W t ∙ and_false_right (has a t) (and_false_left (ltb t k) (ap not (lt-ltb t j l)))))
                  ∙ S.done t
                  ∙ ap (λ (q : Bool). (has a t && q) && has x (latest f t))
                  (lt-ltb t (least capacity (has rest)) (omega (arith, l, e))
                  ∙ sym (lt-ltb t (least capacity (has r)) (omega (arith, l, after, m))))
              go (no l) (yes u) =
                  let from : j ≤ t = omega (arith, l) in
                  let own = B ∙ ap (has x) (sym (run t from u)) in
                  Z t
                  ∙ rw (later from, W t, own, le-ltb t j from, lt-ltb t k u) (mine (has a t) (has x (latest f t)))
                  ∙ ap (λ (q : Bool). (has a t && q) && has x (latest f t)) (sym (lt-ltb t (least capacity (has r)) (omega (arith, u, m))))
              go (no l) (no u) =
                  Z t
                  ∙ or_false (later (omega (arith, l)))
                  (and_false_right b (W t ∙ and_false_right (has a t) (and_false_right (not (ltb t j)) (le-ltb t k (omega (arith, u))))))
                  ∙ sym (and_false_left (has x (latest f t)) (and_false_right (has a t) (le-ltb t (least capacity (has r)) (omega (arith, u, m)))))

  -- a are the members of c below n, b all states below n
  pub spreading_end : (c b : ℕ) → ((t : ℕ) → has b t ≡ ltb t n) → ((t : ℕ) → has a t ≡ (has c t && has b t)) → (rest y : ℕ)
      → Spreading f x a rest y → rest ≡ 0 → y ≡ pack n (spread_at c f x)
  unfolding spread_at
  spreading_end c b B A rest y S z =
      ext y (pack n (spread_at c f x)) (λ t. same_test (has y t) (has (pack n (spread_at c f x)) t) (to t) (back t))
    where
      last : (t : ℕ) → t < n → ltb t (least capacity (has rest)) ≡ true
      last t l = go (dec_lt t (least capacity (has rest)))
        where
          go : Dec (t < least capacity (has rest)) → ltb t (least capacity (has rest)) ≡ true
          go (yes q) = lt-ltb t (least capacity (has rest)) q
          go (no q) =
              absurd (clash (least_member capacity (has rest) (omega (arith, q, l, few)))
              (ap (λ (k : ℕ). has k (least capacity (has rest))) z ∙ has_zero_lem (least capacity (has rest))))

      to : (t : ℕ) → has y t ≡ true → has (pack n (spread_at c f x)) t ≡ true
      to t h =
          let both = sym (S.done t) ∙ h in
          let cut = sym (A t) ∙ and_left (has a t) _ (and_left (has a t && ltb t (least capacity (has rest))) (has x (latest f t)) both) in
          has_pack n (spread_at c f x) t
          ∙ and_intro (sym (B t) ∙ and_right (has c t) (has b t) cut)
          (and_intro (and_left (has c t) (has b t) cut) (and_right (has a t && ltb t (least capacity (has rest))) (has x (latest f t)) both))

      back : (t : ℕ) → has (pack n (spread_at c f x)) t ≡ true → has y t ≡ true
      back t h =
          let inside = sym (has_pack n (spread_at c f x) t) ∙ h in
          let under = and_left (ltb t n) (has c t && has x (latest f t)) inside in
          let both = and_right (ltb t n) (has c t && has x (latest f t)) inside in
          S.done t
          ∙ and_intro (and_intro (A t ∙ and_intro (and_left (has c t) (has x (latest f t)) both) (B t ∙ under)) (last t (ltb-true t n under)))
          (and_right (has c t) (has x (latest f t)) both)
