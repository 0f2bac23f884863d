-- The counters whose goal is a, as a set.
--
--   aimed_none              : no counter, where a is no goal
--   aimed_after             : from just past the goal before a up to a, where there is one
--   aimed_round             : else up to a, and from just past the last goal on
use Prim.Native.Nat.{ℕ, ◌+◌, ◌-◌, ◌≤◌, ◌<◌}
use mathlib.Core.Path.{◌≡◌, sym, ◌∙◌, ap}
use mathlib.Core.Bool.{true, false, ◌&&◌, ◌||◌, not}
use mathlib.Core.Logic.{◌⊎◌, inl, inr, ◌≢◌}
use native.Mathlib.Omega.{arith}
use native.Mathlib.Decide.{dec_lt}
use lib.Dec.{ltb}
use borrow.Author.Tests.{lt-ltb, le-ltb, ltb-true, ltb-false, eq-eqb, eqb-true}
use Rattle.finite.specs.Bounded.{least}
use Rattle.finite.proofs.Truth.{clash, false_of, same_test, and_intro, and_left, and_right, or_left, or_right, or_cases, not_true}
use Rattle.finite.proofs.Bounded.{least_below, least_before}
use Rattle.bits.specs.Member.{has, pack}
use Rattle.bits.proofs.Membership.{ext, has_zero_lem, has_pack, within_has}
use Rattle.bits.proofs.Compare.{nonzero_member}
use Rattle.table_counters.specs.Counters.{Past}
use Rattle.theory.specs.Tour.{around}
use Rattle.theory.proofs.Around.{around_cases, distance, distance_below, around_distance}
use Rattle.table_goals.specs.Goal.{Goals, first_from, aimed_at}
use Rattle.table_goals.proofs.Goal.{first_is, first_member, goals_at}

-- ---- the first member from h on is a: nothing lies between

module _ (m q h a t : ℕ) (G : Goals q m h) (e : first_from m q h ≡ a) (n : has q t ≡ true) where
  steps : ℕ
  steps = least m (λ k. has q (around m h k))

  steps_below : steps < m
  unfolding steps
  steps_below =
      let b = within_has q m t G.members n in
      least_below m (λ k. has q (around m h k)) (distance m h t) (distance_below m h t G.below b)
      (ap (has q) (around_distance m h t G.below b) ∙ n)

  steps_at : around m h steps ≡ a
  unfolding first_from steps
  steps_at = e

  steps_none : (k : ℕ) → k < steps → around m h k ≡ t → ⊥
  unfolding steps
  steps_none k b z = clash (ap (has q) z ∙ n) (least_before m (λ j. has q (around m h j)) k b)

  t_below : t < m
  t_below = within_has q m t G.members n

  -- ahead of h without going round, and a further ahead
  not_between : h ≤ t → t < a → ⊥
  not_between l b =
      steps_none (t - h)
      (elim (around_cases m h steps) [ inl c ↦ omega (arith, steps_at) | inr c ↦ omega (arith, steps_at, t_below) ])
      (elim (around_cases m h (t - h)) [ inl c ↦ omega arith | inr c ↦ omega (arith, t_below) ])

  -- ahead of h, and a behind it
  not_ahead : a < h → h ≤ t → ⊥
  not_ahead l b =
      steps_none (t - h)
      (elim (around_cases m h steps) [ inl c ↦ omega (arith, steps_at) | inr c ↦ omega (arith, steps_at, t_below) ])
      (elim (around_cases m h (t - h)) [ inl c ↦ omega arith | inr c ↦ omega (arith, t_below) ])

  -- behind h, and a between
  not_behind : a < h → t < a → ⊥
  not_behind l b =
      steps_none (t + m - h)
      (elim (around_cases m h steps) [ inl c ↦ omega (arith, steps_at) | inr c ↦ omega (arith, steps_at, G.below) ])
      (elim (around_cases m h (t + m - h)) [ inl c ↦ omega (arith, G.below) | inr c ↦ omega (arith, G.below) ])

-- the goal of h is a, where that is a member and none lies between
first_upto : (m q h a : ℕ) → h ≤ a → a < m → has q a ≡ true → ((t : ℕ) → h ≤ t → t < a → has q t ≡ false) → first_from m q h ≡ a
first_upto m q h a l b n f =
    first_is m q h a (a - h) (omega arith) (elim (around_cases m h (a - h)) [ inl c ↦ omega arith | inr c ↦ omega arith ]) n
    (λ k d. elim (around_cases m h k) [ inl c ↦ f (around m h k) (omega arith) (omega arith) | inr c ↦ absurd (omega arith) ])

first_round : (m q h a : ℕ) → a < h → h < m → has q a ≡ true → ((t : ℕ) → h ≤ t → has q t ≡ false) → ((t : ℕ) → t < a → has q t ≡ false)
    → first_from m q h ≡ a
first_round m q h a l b n f g =
    first_is m q h a (a + m - h) (omega arith) (elim (around_cases m h (a + m - h)) [ inl c ↦ omega arith | inr c ↦ omega arith ]) n
    (λ k d. elim (around_cases m h k) [ inl c ↦ f (around m h k) (omega arith) | inr c ↦ g (around m h k) (omega arith) ])

-- ---- the word of the counters

module _ (m q a : ℕ) (G : Goals q m 0) where
  aimed_same : (r : ℕ) → ((s : ℕ) → has r s ≡ true → (s < m) × (first_from m q s ≡ a)) → ((s : ℕ) → s < m → first_from m q s ≡ a → has r s ≡ true)
      → r ≡ pack m (aimed_at m q a)
  unfolding aimed_at
  aimed_same r to of = ext r (pack m (aimed_at m q a)) (λ s. same_test (has r s) (has (pack m (aimed_at m q a)) s) (there s) (back s))
    where
      there : (s : ℕ) → has r s ≡ true → has (pack m (aimed_at m q a)) s ≡ true
      there s e = let w = to s e in has_pack m (aimed_at m q a) s ∙ and_intro (lt-ltb s m w.0) (eq-eqb (first_from m q s) a w.1)

      back : (s : ℕ) → has (pack m (aimed_at m q a)) s ≡ true → has r s ≡ true
      back s e =
          let w : (ltb s m && aimed_at m q a s) ≡ true = sym (has_pack m (aimed_at m q a) s) ∙ e in
          of s (ltb-true s m (and_left (ltb s m) (aimed_at m q a s) w)) (eqb-true (first_from m q s) a (and_right (ltb s m) (aimed_at m q a s) w))

  goal_in : (s : ℕ) → s < m → first_from m q s ≡ a → has q a ≡ true
  goal_in s b e = ap (has q) (sym e) ∙ first_member q m s (goals_at q m 0 s G b)

  pub aimed_none : has q a ≡ false → 0 ≡ pack m (aimed_at m q a)
  aimed_none n = aimed_same 0 (λ s e. clash e (has_zero_lem s)) (λ s b e. clash (goal_in s b e) n)

  pub aimed_past : m ≤ a → 0 ≡ pack m (aimed_at m q a)
  aimed_past b = aimed_none (false_of (has q a) (λ e. let l = within_has q m a G.members e in omega arith))

  -- upto has the numbers up to a, low those below a, earlier what q has of them
  module _ (upto low earlier b : ℕ) (i : has q a ≡ true) (u : (s : ℕ) → has upto s ≡ ltb s (a + 1)) (lo : (s : ℕ) → has low s ≡ ltb s a)
      (ea : (s : ℕ) → has earlier s ≡ (has q s && has low s)) where
    a_below : a < m
    a_below = within_has q m a G.members i

    earlier_in : (s : ℕ) → has earlier s ≡ true → (has q s ≡ true) × (s < a)
    earlier_in s e = (and_left (has q s) (has low s) (sym (ea s) ∙ e), ltb-true s a (sym (lo s) ∙ and_right (has q s) (has low s) (sym (ea s) ∙ e)))

    into_earlier : (s : ℕ) → has q s ≡ true → s < a → has earlier s ≡ true
    into_earlier s e l = ea s ∙ and_intro e (lo s ∙ lt-ltb s a l)

    pub aimed_after : (p r : ℕ) → earlier ≢ 0 → Past earlier p → ((s : ℕ) → has b s ≡ ltb s p) → ((s : ℕ) → has r s ≡ (has upto s && not (has b s)))
        → r ≡ pack m (aimed_at m q a)
    aimed_after p r ne P bp d = aimed_same r to of
      where
        last : (has q (p - 1) ≡ true) × (p - 1 < a) × (0 < p)
        last =
            let v = nonzero_member earlier ne in
            let l = P.members v.0 v.1 in
            let w = earlier_in (p - 1) (P.last (p - 1) (omega arith)) in (w.0, w.1, omega arith)

        to : (s : ℕ) → has r s ≡ true → (s < m) × (first_from m q s ≡ a)
        to s e =
            let x : (has upto s && not (has b s)) ≡ true = sym (d s) ∙ e in
            let l = ltb-true s (a + 1) (sym (u s) ∙ and_left (has upto s) (not (has b s)) x) in
            let g = ltb-false s p (sym (bp s) ∙ not_true (has b s) (and_right (has upto s) (not (has b s)) x)) in (
              omega (arith, a_below),
              first_upto m q s a (omega arith) a_below i
                  (λ t c k. false_of (has q t) (λ h. let y = P.members t (into_earlier t h k) in omega arith)),
            )

        of : (s : ℕ) → s < m → first_from m q s ≡ a → has r s ≡ true
        of s l e =
            d s
            ∙ and_intro
            (u s ∙ lt-ltb s (a + 1) (elim (dec_lt a s) [
              | yes c ↦ absurd (not_behind m q s a (p - 1) (goals_at q m 0 s G l) e last.0 c last.1)
              | no c ↦
                  omega arith
            ]))
            (ap not (bp s ∙ le-ltb s p (elim (dec_lt s p) [
              | yes c ↦ absurd
                  (not_between m q s a (p - 1) (goals_at q m 0 s G l) e last.0 (omega arith) last.1)
              | no c ↦ omega arith
            ])))

    pub aimed_round : (p all round r : ℕ) → earlier ≡ 0 → Past q p → ((s : ℕ) → has b s ≡ ltb s p) → ((s : ℕ) → has all s ≡ ltb s m)
        → ((s : ℕ) → has round s ≡ (has all s && not (has b s))) → ((s : ℕ) → has r s ≡ (has upto s || has round s)) → r ≡ pack m (aimed_at m q a)
    aimed_round p all round r z P bp al d un = aimed_same r to of
      where
        none : (t : ℕ) → t < a → has q t ≡ false
        none t l = false_of (has q t) (λ h. clash (into_earlier t h l) (ap (λ (k : ℕ). has k t) z ∙ has_zero_lem t))

        a_past : a < p
        a_past = P.members a i

        to : (s : ℕ) → has r s ≡ true → (s < m) × (first_from m q s ≡ a)
        to s e = go (or_cases (has upto s) (has round s) (sym (un s) ∙ e))
          where
            go : (has upto s ≡ true) ⊎ (has round s ≡ true) → (s < m) × (first_from m q s ≡ a)
            go (inl x) =
                let l = ltb-true s (a + 1) (sym (u s) ∙ x) in
                (omega (arith, a_below), first_upto m q s a (omega arith) a_below i (λ t c k. none t k))
            go (inr x) =
                let y : (has all s && not (has b s)) ≡ true = sym (d s) ∙ x in
                let l = ltb-true s m (sym (al s) ∙ and_left (has all s) (not (has b s)) y) in
                let g = ltb-false s p (sym (bp s) ∙ not_true (has b s) (and_right (has all s) (not (has b s)) y)) in
                (l, first_round m q s a (omega (arith, a_past)) l i (λ t c. false_of (has q t) (λ h. let k = P.members t h in omega arith)) none)

        of : (s : ℕ) → s < m → first_from m q s ≡ a → has r s ≡ true
        of s l e = go (dec_lt a s) (dec_lt s p)
          where
            go : Dec (a < s) → Dec (s < p) → has r s ≡ true
            go (no c) k = un s ∙ or_left (has round s) (u s ∙ lt-ltb s (a + 1) (omega arith))
            go (yes c) (yes k) =
                absurd (not_ahead m q s a (p - 1) (goals_at q m 0 s G l) e (P.last (p - 1) (omega arith)) c (omega arith))
            go (yes c) (no k) = un s ∙ or_right (has upto s) (d s ∙ and_intro (al s ∙ lt-ltb s m l) (ap not (bp s ∙ le-ltb s p (omega arith))))
