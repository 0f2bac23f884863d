-- All rounds of the search.
--
--   Levels          : what holds after some rounds: the layer reached, and which states are left
--   levels_start    : it holds at the start
--   levels_within   : what is reached are states
--   levels_chosen, levels_leads : what a state that settles chooses is its move towards the target
--   levels_turn     : it holds again after a round
--   left_falls      : a round that settles a state leaves fewer
--   levels_still    : where a round settles no state, those that are left have no way
use Prim.Native.Nat.{ℕ, zero, suc, ◌≤◌, ◌<◌}
use mathlib.Core.Path.{◌≡◌, refl, sym, ◌∙◌, ap}
use mathlib.Core.Bool.{Bool, true, false, not, ◌&&◌, ◌||◌}
use mathlib.Core.List.{List}
use mathlib.Core.Logic.{◌⊎◌, inl, inr}
use native.Mathlib.Decide.{dec_lt}
use native.Mathlib.Omega.{arith}
use Rattle.finite.specs.Bounded.{count}
use Rattle.finite.proofs.Truth.{decide, clash, false_of, and_left, and_right, and_cases, or_left, or_right, or_cases, same_test, not_true, not_false}
use Rattle.finite.proofs.Bounded.{count_less, below_suc}
use Rattle.bits.specs.Member.{has, within, pack}
use Rattle.bits.proofs.Membership.{ext, has_zero_lem, within_lt, has_within, has_pack_below, pack_has, pack_below}
use Rattle.bits.proofs.Compare.{nonzero_member}
use Rattle.sets.specs.Words.{capacity}
use Rattle.graphs.specs.Way.{layer, near, approach, shortest, prefer, toward}
use Rattle.graphs.proofs.Way.{Leads, prefer_same, prefer_wider, near_below, near_more, near_step, near_cases, toward_move, toward_near, approach_best}
use Rattle.graph_ways.specs.Kept.{kept}
use Rattle.graph_ways.specs.Search.{choices, moves_into}
use Rattle.graph_ways.proofs.Kept.{kept_from}
use Rattle.graph_ways.proofs.Round.{has_choices, settles_intro, settles_nonzero, settles_left, settles_move}

-- ---- shortest ways along any relation

module _ (n : ℕ) (r : ℕ → ℕ → Bool) (p : ℕ → Bool) where
  -- the first layer that a move of s lands in
  approach_first : (s t k : ℕ) → r s t ≡ true → near n r p k t ≡ true → ((u j : ℕ) → j < k → r s u ≡ true → near n r p j u ≡ false) → approach n r p s ≡ k
  approach_first s t k e h none = go (dec_lt (approach n r p s) k)
    where
      way : Leads n r p s
      way = record { next = t; moves = k; move = e; way = h }

      go : Dec (approach n r p s < k) → approach n r p s ≡ k
      go (yes b) = clash (toward_near n r p s way) (none (toward n r p s) (approach n r p s) b (toward_move n r p s way))
      go (no b) = omega (arith, approach_best n r p s t k e h)

  near_at_lem : (k l t : ℕ) → l ≡ layer n r p k → near n r p k t ≡ has l t
  unfolding near
  near_at_lem k l t e = ap (λ (x : ℕ). has x t) (sym e)

  near_later : (k t : ℕ) → near n r p zero t ≡ true → near n r p k t ≡ true
  near_later zero t h = h
  near_later (suc k) t h = near_more n r p k t (near_later k t h)

-- ---- the search

-- l is the set of the states reached, left the states of c without a move yet
pub record Levels (rows : List ℕ) (n c target l left : ℕ) : Type 0 where
  pub rounds : ℕ
  pub reached : l ≡ layer n (kept rows c) (has target) rounds
  pub inside : (s : ℕ) → has left s ≡ true → has c s ≡ true
  pub waits : (s t j : ℕ) → s < n → has left s ≡ true → j < rounds → kept rows c s t ≡ true → near n (kept rows c) (has target) j t ≡ false
  pub settled : (s : ℕ) → s < n → has c s ≡ true → has left s ≡ false → has l s ≡ true

pub levels_start : (rows : List ℕ) (n c target own : ℕ) → within target n ≡ true → ((s : ℕ) → has own s ≡ true → has c s ≡ true)
    → ((s : ℕ) → has c s ≡ true → has own s ≡ false → has target s ≡ true) → Levels rows n c target target own
unfolding layer
levels_start rows n c target own b inside cover =
    record {
      rounds = zero;
      reached = sym (pack_has n target (within_lt target n b));
      inside = inside;
      waits = λ s t j a h k. absurd (omega arith);
      settled = λ s a h f. cover s h f;
    }

-- what is reached are states
pub levels_within : (rows : List ℕ) (n c target l left : ℕ) → Levels rows n c target l left → within l n ≡ true
levels_within rows n c target l left h =
    has_within l n
    (λ t e. near_below n (kept rows c) (has target) h.rounds t (near_at_lem n (kept rows c) (has target) h.rounds l t h.reached ∙ e))

-- a round from a state of the search
module _ (rows : List ℕ) (n c target l left z : ℕ) (fits : n ≤ capacity) (h : Levels rows n c target l left) (d : z ≡ pack n (moves_into rows c left l)) where
  settled_has : (s : ℕ) → s < n → has z s ≡ moves_into rows c left l s
  settled_has s b = ap (λ (k : ℕ). has k s) d ∙ has_pack_below n (moves_into rows c left l) s b

  settled_below : (s : ℕ) → has z s ≡ true → s < n
  settled_below s e = pack_below n (moves_into rows c left l) s (ap (λ (k : ℕ). has k s) (sym d) ∙ e)

  pub settled_settles : (s : ℕ) → has z s ≡ true → moves_into rows c left l s ≡ true
  settled_settles s e = sym (settled_has s (settled_below s e)) ∙ e

  now_at : (t : ℕ) → near n (kept rows c) (has target) h.rounds t ≡ has l t
  now_at t = near_at_lem n (kept rows c) (has target) h.rounds l t h.reached

  -- a state that is left and has a move into what is reached settles
  takes : (s t : ℕ) → s < n → has left s ≡ true → kept rows c s t ≡ true → has l t ≡ true → has z s ≡ true
  takes s t b a m e = settled_has s b ∙ settles_intro rows c left l s t a m e

  -- ---- a round that settles no state

  still : z ≡ 0 → (k t : ℕ) → near n (kept rows c) (has target) k t ≡ true → has l t ≡ true
  still e zero t a = sym (now_at t) ∙ near_later n (kept rows c) (has target) h.rounds t a
  still e (suc k) t a = go (near_cases n (kept rows c) (has target) k t a) (decide (has left t)) (still e k)
    where
      go : (near n (kept rows c) (has target) k t ≡ true) ⊎ ((u : ℕ) × (u < n) × (kept rows c t u ≡ true) × (near n (kept rows c) (has target) k u ≡ true))
          → (has left t ≡ true) ⊎ (has left t ≡ false)
          → ((u : ℕ) → near n (kept rows c) (has target) k u ≡ true → has l u ≡ true) → has l t ≡ true
      go (inl b) f rec = rec t b
      go (inr w) (inl f) rec =
          clash (takes t w.0 (near_below n (kept rows c) (has target) (suc k) t a) f w.2 (rec w.0 w.3))
          (ap (λ (j : ℕ). has j t) e ∙ has_zero_lem t)
      go (inr w) (inr f) rec = h.settled t (near_below n (kept rows c) (has target) (suc k) t a) (kept_from rows c t w.0 w.2) f

  pub levels_still : z ≡ 0 → (s : ℕ) → s < n → has left s ≡ true → Leads n (kept rows c) (has target) s → ⊥
  levels_still e s b a w =
      clash (takes s w.next b a w.move (still e w.moves w.next w.way)) (ap (λ (j : ℕ). has j s) e ∙ has_zero_lem s)

  -- ---- a round that settles some

  -- a state settles in the round of its shortest way
  settles_approach : (s : ℕ) → s < n → moves_into rows c left l s ≡ true → approach n (kept rows c) (has target) s ≡ h.rounds
  settles_approach s b e =
      let a = settles_left rows c left l s e in
      let w = settles_move rows c left l s (h.inside s a) e in
      approach_first n (kept rows c) (has target) s w.0 h.rounds w.1 (now_at w.0 ∙ w.2) (λ u j k m. h.waits s u j b a k m)

  -- what it chooses from is its shortest moves
  chooses : (s : ℕ) → s < n → moves_into rows c left l s ≡ true → (t : ℕ) → has (choices rows c left l s) t ≡ shortest n (kept rows c) (has target) s t
  unfolding shortest
  chooses s b e t =
      let a = settles_left rows c left l s e in
      has_choices rows c left l s t a (h.inside s a)
      ∙ ap (λ (k : Bool). kept rows c s t && k)
      (sym (now_at t) ∙ ap (λ (k : ℕ). near n (kept rows c) (has target) k t) (sym (settles_approach s b e)))

  pub levels_chosen : (s : ℕ) → s < n → moves_into rows c left l s ≡ true
      → prefer capacity s (has (choices rows c left l s)) ≡ toward n (kept rows c) (has target) s
  unfolding toward
  levels_chosen s b e =
      let a = settles_left rows c left l s e in
      let m = nonzero_member (choices rows c left l s) (settles_nonzero rows c left l s e) in
      prefer_wider n capacity s (has (choices rows c left l s)) m.0 fits
      (λ t k.
      near_below n (kept rows c) (has target) h.rounds t
      (now_at t ∙ and_right (kept rows c s t) (has l t) (sym (has_choices rows c left l s t a (h.inside s a)) ∙ k)))
      m.1
      ∙ prefer_same n s (has (choices rows c left l s)) (shortest n (kept rows c) (has target) s) (λ t k. chooses s b e t)

  pub levels_leads : (s : ℕ) → moves_into rows c left l s ≡ true → Leads n (kept rows c) (has target) s
  levels_leads s e =
      let w = settles_move rows c left l s (h.inside s (settles_left rows c left l s e)) e in
      record { next = w.0; moves = h.rounds; move = w.1; way = now_at w.0 ∙ w.2 }

  -- the next layer: what is reached, and those that settle
  grown : (l' : ℕ) → ((s : ℕ) → has l' s ≡ (has l s || has z s)) → l' ≡ layer n (kept rows c) (has target) (suc h.rounds)
  grown l' f = ext l' next (λ s. f s ∙ same_test (has l s || has z s) (has next s) (to s) (back s))
    where
      next : ℕ
      next = layer n (kept rows c) (has target) (suc h.rounds)

      near_next : (s : ℕ) → near n (kept rows c) (has target) (suc h.rounds) s ≡ has (layer n (kept rows c) (has target) (suc h.rounds)) s
      near_next s = near_at_lem n (kept rows c) (has target) (suc h.rounds) (layer n (kept rows c) (has target) (suc h.rounds)) s refl

      to : (s : ℕ) → (has l s || has z s) ≡ true → has (layer n (kept rows c) (has target) (suc h.rounds)) s ≡ true
      to s e = sym (near_next s) ∙ elim (or_cases (has l s) (has z s) e) [
        | inl a ↦ near_more n (kept rows c) (has target) h.rounds s (now_at s ∙ a)
        | inr a ↦
            let q = settled_settles s a in
            let w = settles_move rows c left l s (h.inside s (settles_left rows c left l s q)) q in
            near_step n (kept rows c) (has target) h.rounds s w.0 (settled_below s a) w.1 (now_at w.0 ∙ w.2)
      ]

      split : (s : ℕ) → s < n
          → (near n (kept rows c) (has target) h.rounds s ≡ true)
          ⊎ ((t : ℕ) × (t < n) × (kept rows c s t ≡ true) × (near n (kept rows c) (has target) h.rounds t ≡ true))
          → (has left s ≡ true) ⊎ (has left s ≡ false) → (has l s || has z s) ≡ true
      split s b (inl a) g = or_left (has z s) (sym (now_at s) ∙ a)
      split s b (inr w) (inl g) = or_right (has l s) (takes s w.0 b g w.2 (sym (now_at w.0) ∙ w.3))
      split s b (inr w) (inr g) = or_left (has z s) (h.settled s b (kept_from rows c s w.0 w.2) g)

      back : (s : ℕ) → has (layer n (kept rows c) (has target) (suc h.rounds)) s ≡ true → (has l s || has z s) ≡ true
      back s e =
          let a = near_next s ∙ e in
          split s (near_below n (kept rows c) (has target) (suc h.rounds) s a)
          (near_cases n (kept rows c) (has target) h.rounds s a) (decide (has left s))

  module _ (l' left' : ℕ) (f : (s : ℕ) → has l' s ≡ (has l s || has z s)) (g : (s : ℕ) → has left' s ≡ (has left s && not (has z s))) where
    still_left : (s : ℕ) → has left' s ≡ true → has left s ≡ true
    still_left s e = and_left (has left s) (not (has z s)) (sym (g s) ∙ e)

    still_waits : (s t j : ℕ) → s < n → has left' s ≡ true → j < suc h.rounds → kept rows c s t ≡ true → near n (kept rows c) (has target) j t ≡ false
    still_waits s t j b e k m =
        elim (below_suc j h.rounds k) [
          | inl q ↦ false_of (near n (kept rows c) (has target) j t)
              (λ a. clash
              (takes s t b (still_left s e) m (sym (now_at t) ∙ ap (λ (i : ℕ). near n (kept rows c) (has target) i t) (sym q) ∙ a))
              (not_true (has z s) (and_right (has left s) (not (has z s)) (sym (g s) ∙ e))))
          | inr q ↦ h.waits s t j b (still_left s e) q m
        ]

    -- a state that is not left any more was not left before, or settles now
    pub gone : (s : ℕ) → has left' s ≡ false → (has left s ≡ false) ⊎ (has z s ≡ true)
    gone s e =
        elim (and_cases (has left s) (not (has z s)) (sym (g s) ∙ e)) [ inl a ↦ inl a | inr a ↦ inr (not_false (has z s) a) ]

    pub levels_turn : Levels rows n c target l' left'
    levels_turn =
        record {
          rounds = suc h.rounds;
          reached = grown l' f;
          inside = λ s e. h.inside s (still_left s e);
          waits = still_waits;
          settled = λ s b e k. f s ∙ elim (gone s k) [ inl a ↦ or_left (has z s) (h.settled s b e a) | inr a ↦ or_right (has l s) a ];
        }

    pub left_falls : (z ≡ 0 → ⊥) → count capacity (has left') < count capacity (has left)
    left_falls ne =
        let m = nonzero_member z ne in
        let a = settles_left rows c left l m.0 (settled_settles m.0 m.1) in
        count_less capacity (has left') (has left) (λ s b e. still_left s e) m.0 (omega (arith, settled_below m.0 m.1))
        (g m.0 ∙ rw (a, m.1) refl)
        a
