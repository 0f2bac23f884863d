-- The loops of the search for a component.
--
--   Going, going_start, -below, -next, -falls, -end      : forward from a state
--   alone_component, search_component                    : a state with no move to another; what backward and forward search find
--   block_component                                      : what is found in a block is found in the whole
--   crossed_start, -next, span_none, -some               : the places that moves cross
--   block_whole, block_below, free_small                 : what is left below a place that none crosses
--   Sweeping, sweeping_start, -below, -next, -end        : one sweep backward
--   Backing, backing_start, -next, -falls, -end          : sweeps until one finds nothing
use Prim.Native.Nat.{ℕ, ◌+◌, ◌≤◌, ◌<◌}
use mathlib.Core.Path.{◌≡◌, refl, sym, ◌∙◌, ap}
use mathlib.Core.Bool.{Bool, true, false, ◌&&◌, ◌||◌, not}
use mathlib.Core.List.{List}
use mathlib.Core.Logic.{◌⊎◌, inl, inr, ◌≢◌}
use native.Mathlib.Omega.{arith}
use native.Mathlib.Decide.{dec_lt}
use lib.Dec.{eqb, ltb}
use lib.ListN.{get_or}
use borrow.Author.Tests.{eqb-true, eq-eqb, ltb-true, ltb-false, lt-ltb, le-ltb}
use Rattle.finite.specs.Bounded.{least, count, any}
use Rattle.finite.proofs.Truth.{decide, clash, false_of, and_intro, and_left, and_right, or_left, or_right, or_cases, or_false_left, or_false_right, not_true}
use Rattle.finite.proofs.Bounded.{count_less, least_at_most, any_elim, any_false}
use Rattle.bits.specs.Member.{has, sets_meet}
use Rattle.bits.proofs.Membership.{has_zero_lem, ext}
use Rattle.bits.proofs.Compare.{meets_intro, meets_elim}
use Rattle.bits.proofs.Remove.{less_in, less_out, less_falls}
use Rattle.bits.proofs.Visit.{small_word, lowest_below, lowest_in_lem, lowest_less}
use Rattle.sets.specs.Words.{capacity}
use Rattle.graph_ranks.specs.Search.{Narrow, Small, Onward, Backward, Crossed, Block, Ahead, Swept, Behind, Component}

not_of : {b : Bool} → b ≡ false → not b ≡ true
not_of e = rw e refl

-- a set with one member
module _ (s x : ℕ) (d : (t : ℕ) → has x t ≡ (has 0 t || eqb t s)) where
  single_own : has x s ≡ true
  single_own = d s ∙ or_right (has 0 s) (eq-eqb s s refl)

  single_is : (t : ℕ) → has x t ≡ true → t ≡ s
  single_is t e =
      elim (or_cases (has 0 t) (eqb t s) (sym (d t) ∙ e)) [
        | inl z ↦ clash z (has_zero_lem t)
        | inr q ↦ eqb-true t s q
      ]

-- what is left of a set without its lowest member
module _ (w h r : ℕ) (small : (t : ℕ) → has w t ≡ true → t < capacity) (some : w ≢ 0) (e : h ≡ least capacity (has w))
    (d : (s : ℕ) → has r s ≡ (has w s && not (eqb s (least capacity (has w))))) where
  taken : has w h ≡ true
  taken = lowest_in_lem capacity w h (small_word capacity w small) some e

  others : (s : ℕ) → has r s ≡ (has w s && not (eqb s h))
  others = lowest_less capacity w h r e d

  -- a member is the lowest or is left
  left_or : (s : ℕ) → has w s ≡ true → (s ≡ h) ⊎ (has r s ≡ true)
  left_or s m =
      elim (decide (eqb s h)) [
        | inl q ↦ inl (eqb-true s h q)
        | inr q ↦ inr (others s ∙ and_intro m (not_of q))
      ]

-- ---- forward

pub record Going (rows : List ℕ) (inside s found waiting : ℕ) : Type 0 where
  pub own : has found s ≡ true
  seen : (t : ℕ) → has waiting t ≡ true → has found t ≡ true
  pub small : Small found
  pub moves : (t u : ℕ) → has found t ≡ true → has waiting t ≡ false → has (get_or rows t 0) u ≡ true → has inside u ≡ true → has found u ≡ true
  pub least : (p : ℕ → Bool) → p s ≡ true → Onward rows inside p → (t : ℕ) → has found t ≡ true → p t ≡ true

-- a state that is not found, or whose moves have not been followed
unfoldable pub pending : ℕ → ℕ → ℕ → Bool
pending found waiting t = not (has found t) || has waiting t

module _ (rows : List ℕ) (inside s : ℕ) where
  pub going_start : s < capacity → (x : ℕ) → ((t : ℕ) → has x t ≡ (has 0 t || eqb t s)) → Going rows inside s x x
  going_start b x d = record {
    own = single_own s x d;
    seen = λ t e. e;
    small = λ t e. let q = single_is s x d t e in rw q b;
    moves = λ t u e f m i. clash e f;
    least = λ p o m t e. let q = single_is s x d t e in rw q o;
  }

  pub going_below : (f w : ℕ) → Going rows inside s f w → w ≢ 0 → (h : ℕ) → h ≡ least capacity (has w) → h < capacity
  going_below f w G some h e = lowest_below capacity w h (small_word capacity w (λ t m. G.small t (G.seen t m))) some e

  pub going_end : (f w : ℕ) → Going rows inside s f w → w ≡ 0 → Ahead rows inside s f
  going_end f w G e = record {
    own = G.own;
    onward = λ t u m r i. G.moves t u m (ap (λ (x : ℕ). has x t) e ∙ has_zero_lem t) r i;
    least = G.least;
  }

  module _ (N : Small inside) (f w h row there next f' v w' : ℕ) (G : Going rows inside s f w) (some : w ≢ 0) (e : h ≡ least capacity (has w))
      (r : row ≡ get_or rows h 0) (dt : (t : ℕ) → has there t ≡ (has row t && has inside t))
      (dn : (t : ℕ) → has next t ≡ (has there t && not (has f t))) (df : (t : ℕ) → has f' t ≡ (has f t || has next t))
      (dv : (t : ℕ) → has v t ≡ (has w t && not (eqb t (least capacity (has w))))) (dw : (t : ℕ) → has w' t ≡ (has v t || has next t)) where
    waits_small : (t : ℕ) → has w t ≡ true → t < capacity
    waits_small t m = G.small t (G.seen t m)

    here : has w h ≡ true
    here = taken w h v waits_small some e dv

    next_there : (t : ℕ) → has next t ≡ true → (has row t && has inside t) ≡ true
    next_there t m = sym (dt t) ∙ and_left (has there t) (not (has f t)) (sym (dn t) ∙ m)

    next_move_lem : (t : ℕ) → has next t ≡ true → has (get_or rows h 0) t ≡ true
    next_move_lem t m = let q = and_left (has row t) (has inside t) (next_there t m) in rw r at q

    next_inside : (t : ℕ) → has next t ≡ true → has inside t ≡ true
    next_inside t m = and_right (has row t) (has inside t) (next_there t m)

    next_new : (t : ℕ) → has next t ≡ true → has f t ≡ false
    next_new t m = not_true (has f t) (and_right (has there t) (not (has f t)) (sym (dn t) ∙ m))

    kept : (t : ℕ) → has f t ≡ true → has f' t ≡ true
    kept t m = df t ∙ or_left (has next t) m

    gained : (t : ℕ) → has next t ≡ true → has f' t ≡ true
    gained t m = df t ∙ or_right (has f t) m

    -- what the lowest waiting state moves to inside is found now
    followed : (u : ℕ) → has (get_or rows h 0) u ≡ true → has inside u ≡ true → has f' u ≡ true
    followed u m i =
        elim (decide (has f u)) [
          | inl q ↦ kept u q
          | inr q ↦ gained u (dn u ∙ and_intro (dt u ∙ and_intro (ap (λ (x : ℕ). has x u) r ∙ m) i) (not_of q))
        ]

    not_next : (t : ℕ) → has f t ≡ true → has next t ≡ false
    not_next t m = false_of (has next t) (λ q. clash m (next_new t q))

    -- a state that was found and no longer waits did not wait, or is the lowest
    unwaiting : (t : ℕ) → has w' t ≡ false → (t ≡ h) ⊎ (has w t ≡ false)
    unwaiting t q =
        elim (decide (has w t)) [
          | inl m ↦ elim (left_or w h v waits_small some e dv t m) [
            | inl i ↦ inl i
            | inr l ↦ clash (dw t ∙ or_left (has next t) l) q
          ]
          | inr m ↦ inr m
        ]

    cases : (t : ℕ) → has f' t ≡ true → (has f t ≡ true) ⊎ (has next t ≡ true)
    cases t m = or_cases (has f t) (has next t) (sym (df t) ∙ m)

    pub going_next : Going rows inside s f' w'
    going_next = record {
      own = kept s G.own;
      seen = λ t m. elim (or_cases (has v t) (has next t) (sym (dw t) ∙ m)) [
        | inl q ↦ kept t (G.seen t (less_in w h v (others w h v waits_small some e dv) t q))
        | inr q ↦ gained t q
      ];
      small = λ t m. elim (cases t m) [ inl q ↦ G.small t q | inr q ↦ N t (next_inside t q) ];
      moves = λ t u m q r i. elim (cases t m) [
        | inl o ↦ elim (unwaiting t q) [
          | inl k ↦ followed u (rw k at r) i
          | inr l ↦ kept u (G.moves t u o l r i)
        ]
        | inr o ↦ clash (dw t ∙ or_right (has v t) o) q
      ];
      least = λ p o m t q. elim (cases t q) [
        | inl k ↦ G.least p o m t k
        | inr k ↦ m h t (G.least p o m h (G.seen h here)) (next_move_lem t k) (next_inside t k)
      ];
    }

    pub going_falls : count capacity (pending f' w') < count capacity (pending f w)
    unfolding pending
    going_falls =
        count_less capacity (pending f' w') (pending f w) (λ t b m. before t m) h (waits_small h here) after_h (or_right (not (has f h)) here)
      where
        before : (t : ℕ) → pending f' w' t ≡ true → pending f w t ≡ true
        before t m =
            elim (or_cases (not (has f' t)) (has w' t) m) [
              | inl q ↦ or_left (has w t) (not_of (false_of (has f t) (λ k. clash (kept t k) (not_true (has f' t) q))))
              | inr q ↦ elim (or_cases (has v t) (has next t) (sym (dw t) ∙ q)) [
                | inl k ↦ or_right (not (has f t)) (less_in w h v (others w h v waits_small some e dv) t k)
                | inr k ↦ or_left (has w t) (not_of (next_new t k))
              ]
            ]

        after_h : pending f' w' h ≡ false
        after_h =
            false_of (pending f' w' h) (λ m. elim (or_cases (not (has f' h)) (has w' h) m) [
              | inl q ↦ clash (kept h (G.seen h here)) (not_true (has f' h) q)
              | inr q ↦ elim (or_cases (has v h) (has next h) (sym (dw h) ∙ q)) [
                | inl k ↦ clash k (less_out w h v (others w h v waits_small some e dv))
                | inr k ↦ clash (G.seen h here) (next_new h k)
              ]
            ])

-- ---- one sweep backward

pub record Sweeping (rows : List ℕ) (left found more rest : ℕ) : Type 0 where
  pub keeps : (t : ℕ) → has found t ≡ true → has more t ≡ true
  pub inside : (t : ℕ) → has rest t ≡ true → has left t ≡ true
  pub moves : (t u : ℕ) → has left t ≡ true → has rest t ≡ false → has (get_or rows t 0) u ≡ true → has found u ≡ true → has more t ≡ true
  pub least : (p : ℕ → Bool) → ((t : ℕ) → has found t ≡ true → p t ≡ true) → Backward rows left p → (t : ℕ) → has more t ≡ true → p t ≡ true

module _ (rows : List ℕ) (left found : ℕ) where
  pub sweeping_start : Sweeping rows left found found left
  sweeping_start = record {
    keeps = λ t m. m;
    inside = λ t m. m;
    moves = λ t u m q r f. clash m q;
    least = λ p f m t q. f t q;
  }

  pub sweeping_end : (more rest : ℕ) → Sweeping rows left found more rest → rest ≡ 0 → Swept rows left found more
  sweeping_end more rest W e = record {
    keeps = W.keeps;
    moves = λ t u m r f. W.moves t u m (ap (λ (x : ℕ). has x t) e ∙ has_zero_lem t) r f;
    least = W.least;
  }

  module _ (small : Small left) (more rest h : ℕ) (W : Sweeping rows left found more rest) (some : rest ≢ 0)
      (e : h ≡ least capacity (has rest)) where
    rest_small : (t : ℕ) → has rest t ≡ true → t < capacity
    rest_small t m = small t (W.inside t m)

    sweeping_in : has rest h ≡ true
    sweeping_in = lowest_in_lem capacity rest h (small_word capacity rest rest_small) some e

    pub sweeping_below : h < capacity
    sweeping_below = rest_small h sweeping_in

    module _ (v : ℕ) (dv : (t : ℕ) → has v t ≡ (has rest t && not (eqb t (least capacity (has rest))))) where
      pub sweeping_falls : count capacity (has v) < count capacity (has rest)
      sweeping_falls = less_falls rest h v (others rest h v rest_small some e dv) capacity sweeping_below sweeping_in

      module _ (N : Narrow rows) (row : ℕ) (ok : Bool) (r : row ≡ get_or rows h 0) (q : ok ≡ sets_meet capacity row more) (m' : ℕ)
          (d : (t : ℕ) → has m' t ≡ (has more t || (ok && eqb t h))) where
        grown : (t : ℕ) → has more t ≡ true → has m' t ≡ true
        grown t m = d t ∙ or_left (ok && eqb t h) m

        met : (u : ℕ) → has (get_or rows h 0) u ≡ true → has more u ≡ true → has m' h ≡ true
        met u a b =
            let t : ok ≡ true = q ∙ meets_intro capacity row more u (N h u sweeping_below a) (ap (λ (x : ℕ). has x u) r ∙ a) b in
            d h ∙ or_right (has more h) (and_intro t (eq-eqb h h refl))

        entered : (t : ℕ) → (ok && eqb t h) ≡ true → (t ≡ h) × ((u : ℕ) × (has (get_or rows h 0) u ≡ true) × (has more u ≡ true))
        entered t m =
            let x = meets_elim capacity row more (sym q ∙ and_left ok (eqb t h) m) in
            (eqb-true t h (and_right ok (eqb t h) m), (x.0, ap (λ (y : ℕ). has y x.0) (sym r) ∙ x.2, x.3))

        pub sweeping_next : Sweeping rows left found m' v
        sweeping_next = record {
          keeps = λ t m. grown t (W.keeps t m);
          inside = λ t m. W.inside t (less_in rest h v (others rest h v rest_small some e dv) t m);
          moves = λ t u m o a b. elim (decide (has rest t)) [
            | inl k ↦ elim (left_or rest h v rest_small some e dv t k) [
              | inl i ↦ let c : has (get_or rows h 0) u ≡ true = rw i at a in rw i (met u c (W.keeps u b))
              | inr l ↦ clash l o
            ]
            | inr k ↦ grown t (W.moves t u m k a b)
          ];
          least = λ p f m t k. elim (or_cases (has more t) (ok && eqb t h) (sym (d t) ∙ k)) [
            | inl a ↦ W.least p f m t a
            | inr a ↦
                let x = entered t a in
                let i = x.0 in
                rw i (m h x.1.0 (W.inside h sweeping_in) x.1.1 (W.least p f m x.1.0 x.1.2))
          ];
        }

-- ---- sweeps until one finds nothing

pub record Backing (rows : List ℕ) (inside s found more : ℕ) : Type 0 where
  pub own : has found s ≡ true
  pub keeps : (t : ℕ) → has found t ≡ true → has more t ≡ true
  pub moves : (t u : ℕ) → has inside t ≡ true → has (get_or rows t 0) u ≡ true → has found u ≡ true → has more t ≡ true
  pub least : (p : ℕ → Bool) → p s ≡ true → Backward rows inside p → (t : ℕ) → has more t ≡ true → p t ≡ true

unfoldable pub missing : ℕ → ℕ → Bool
missing found t = not (has found t)

module _ (rows : List ℕ) (inside s : ℕ) where
  pub backing_start : (x m : ℕ) → ((t : ℕ) → has x t ≡ (has 0 t || eqb t s)) → Swept rows inside x m → Backing rows inside s x m
  backing_start x m d W = record {
    own = single_own s x d;
    keeps = W.keeps;
    moves = W.moves;
    least = λ p o f. W.least p (λ t e. let q = single_is s x d t e in rw q o) f;
  }

  backing_small : Small inside → s < capacity → (f m : ℕ) → Backing rows inside s f m → Small m
  backing_small small b f m B t e =
      ltb-true t capacity (B.least (λ k. ltb k capacity) (lt-ltb s capacity b) (λ k u i r q. lt-ltb k capacity (small k i)) t e)

  pub backing_end : Small inside → s < capacity → (f m : ℕ) → Backing rows inside s f m → m ≡ f → Behind rows inside s f × Small f
  backing_end small b f m B e = (
    record {
      own = B.own;
      backward = λ t u i r h. let k = B.moves t u i r h in rw e at k;
      least = λ p o g t h. B.least p o g t (B.keeps t h);
    },
    λ t h. backing_small small b f m B t (B.keeps t h),
  )

  module _ (f m l n : ℕ) (B : Backing rows inside s f m) (d : (t : ℕ) → has l t ≡ (has inside t && not (has m t))) (W : Swept rows l m n) where
    pub backing_next : Backing rows inside s m n
    backing_next = record {
      own = B.keeps s B.own;
      keeps = W.keeps;
      moves = λ t u i r h. elim (decide (has m t)) [
        | inl q ↦ W.keeps t q
        | inr q ↦ W.moves t u (d t ∙ and_intro i (not_of q)) r h
      ];
      least = λ p o g. W.least p (B.least p o g) (λ t u i. g t u (and_left (has inside t) (not (has m t)) (sym (d t) ∙ i)));
    }

  pub left_small : (m l : ℕ) → Small inside → ((t : ℕ) → has l t ≡ (has inside t && not (has m t)))
      → (t : ℕ) → has l t ≡ true → t < capacity
  left_small m l small d t e = small t (and_left (has inside t) (not (has m t)) (sym (d t) ∙ e))

  module _ (small : Small inside) (b : s < capacity) (f m : ℕ) (B : Backing rows inside s f m) (ne : m ≢ f) where
    new : (t : ℕ) × (t < capacity) × ((has m t && not (has f t)) ≡ true)
    new =
        elim (decide (any capacity (λ t. has m t && not (has f t)))) [
          | inl q ↦ any_elim capacity (λ t. has m t && not (has f t)) q
          | inr q ↦ absurd (ne (ext m f (λ t. same t q)))
        ]
      where
        same : (t : ℕ) → any capacity (λ t. has m t && not (has f t)) ≡ false → has m t ≡ has f t
        same t q =
            elim (decide (has m t)) [
              | inl k ↦ elim (decide (has f t)) [
                | inl j ↦ k ∙ sym j
                | inr j ↦ clash (and_intro k (not_of j)) (any_false capacity (λ t. has m t && not (has f t)) q t (backing_small small b f m B t k))
              ]
              | inr k ↦ k ∙ sym (false_of (has f t) (λ j. clash (B.keeps t j) k))
            ]

    pub backing_falls : count capacity (missing m) < count capacity (missing f)
    unfolding missing
    backing_falls =
        let k = and_left (has m new.0) (not (has f new.0)) new.2 in
        count_less capacity (missing m) (missing f)
        (λ t c q. not_of (false_of (has f t) (λ j. clash (B.keeps t j) (not_true (has m t) q)))) new.0 new.1 (rw k refl)
        (and_right (has m new.0) (not (has f new.0)) new.2)

-- ---- the component

module _ (rows : List ℕ) (inside s : ℕ) where
  -- a state with no move to another state inside
  module _ (row x from : ℕ) (small : Small inside) (r : row ≡ get_or rows s 0) (d : (t : ℕ) → has x t ≡ (has 0 t || eqb t s))
      (f : (t : ℕ) → has from t ≡ (has inside t && not (has x t))) (e : sets_meet capacity row from ≡ false) where
    own_move : (u : ℕ) → has (get_or rows s 0) u ≡ true → has inside u ≡ true → u ≡ s
    own_move u m i =
        elim (decide (has x u)) [
          | inl k ↦ single_is s x d u k
          | inr k ↦ clash (meets_intro capacity row from u (small u i) (ap (λ (y : ℕ). has y u) r ∙ m) (f u ∙ and_intro i (not_of k))) e
        ]

    pub alone_component : Component rows inside s x
    alone_component = record {
      ahead = λ p o m t k. let q = single_is s x d t k in rw q o;
      behind = λ p o m t k. let q = single_is s x d t k in rw q o;
      whole = λ t a b.
          let q = a (λ u. eqb u s) (eq-eqb s s refl) (λ u v k m i.
          let j = eqb-true u s k in
          eq-eqb v s (own_move v (rw j at m) i)) in
          let j = eqb-true t s q in
          rw j (single_own s x d);
    }

  module _ (back r : ℕ) (own : has inside s ≡ true) (B : Behind rows inside s back) (A : Ahead rows back s r) where
    back_inside : (t : ℕ) → has back t ≡ true → has inside t ≡ true
    back_inside = B.least (has inside) own (λ t u i m p. i)

    found_back : (t : ℕ) → has r t ≡ true → has back t ≡ true
    found_back = A.least (has back) B.own (λ t u p m i. i)

    -- found, or inside and not behind: what such a state moves to is such a state
    unfoldable found_or : ℕ → Bool
    found_or t = has r t || (has inside t && not (has back t))

    goes_on : Onward rows inside found_or
    unfolding found_or
    goes_on t u q m i =
        elim (decide (has back u)) [
          | inl k ↦ elim (or_cases (has r t) (has inside t && not (has back t)) q) [
            | inl l ↦ or_left (has inside u && not (has back u)) (A.onward t u l m k)
            | inr l ↦ clash (B.backward t u (and_left (has inside t) (not (has back t)) l) m k)
                (not_true (has back t) (and_right (has inside t) (not (has back t)) l))
          ]
          | inr k ↦ or_right (has r u) (and_intro i (not_of k))
        ]

    pub search_component : Component rows inside s r
    unfolding found_or
    search_component = record {
      ahead = λ p o m t k. A.least p o (λ u v h q i. m u v h q (back_inside v i)) t k;
      behind = λ p o m t k. B.least p o m t (found_back t k);
      whole = λ t a b.
          let f = b (has back) B.own B.backward in
          elim (or_cases (has r t) (has inside t && not (has back t)) (a found_or (or_left (has inside s && not (has back s)) A.own) goes_on)) [
            | inl k ↦ k
            | inr k ↦ clash f (not_true (has back t) (and_right (has inside t) (not (has back t)) k))
          ];
    }

-- ---- a part of a set that what moves into it belongs to

module _ (rows : List ℕ) (n left s part : ℕ) (B : Block rows n left s part) (below : (t : ℕ) → has left t ≡ true → t < n) where
  -- in p, or left and outside the part: what such a state moves to is such a state
  unfoldable held_or : (ℕ → Bool) → ℕ → Bool
  held_or p t = p t || (has left t && not (has part t))

  goes_held : (p : ℕ → Bool) → Onward rows part p → Onward rows left (held_or p)
  unfolding held_or
  goes_held p m t u q r i =
      elim (decide (has part u)) [
        | inl k ↦ elim (or_cases (p t) (has left t && not (has part t)) q) [
          | inl l ↦ or_left (has left u && not (has part u)) (m t u l r k)
          | inr l ↦ clash (B.backward below t u (and_left (has left t) (not (has part t)) l) r k)
              (not_true (has part t) (and_right (has left t) (not (has part t)) l))
        ]
        | inr k ↦ or_right (p u) (and_intro i (not_of k))
      ]

  pub block_component : has left s ≡ true → (c : ℕ) → Component rows part s c → Component rows left s c
  unfolding held_or
  block_component own c C = record {
    ahead = λ p o m t k. C.ahead p o (λ u v h r i. m u v h r (B.inside v i)) t k;
    behind = λ p o m t k. C.behind p o (λ u v i r h. m u v (B.inside u i) r h) t k;
    whole = λ t a b.
        let inside = b (has part) (B.own own) (B.backward below) in
        C.whole t (λ p o m.
        elim (or_cases (p t) (has left t && not (has part t)) (a (held_or p) (or_left (has left s && not (has part s)) o) (goes_held p m))) [
          | inl k ↦ k
          | inr k ↦ clash inside (not_true (has part t) (and_right (has left t) (not (has part t)) k))
        ])
        (λ p o m. and_left (p t) (has part t) (b (λ u. p u && has part u) (and_intro o (B.own own)) (λ u v i r h.
        let j = B.backward below u v i r (and_right (p v) (has part v) h) in
        and_intro (m u v j r (and_left (p v) (has part v) h)) j)));
  }

-- ---- the places that moves cross

module _ (rows : List ℕ) where
  pub crossed_start : (x : ℕ) → Crossed rows 0 x
  crossed_start x q t v b l m e = absurd (omega arith)

  pub crossed_next : (n row x y z : ℕ) → Crossed rows n x → row ≡ get_or rows n 0
      → ((q v : ℕ) → q ≤ n → v < q → has row v ≡ true → has y q ≡ true) → ((s : ℕ) → has z s ≡ (has x s || has y s)) → Crossed rows (n + 1) z
  crossed_next n row x y z C r f d q t v b l m e =
      elim (dec_lt t n) [
        | yes k ↦ d q ∙ or_left (has y q) (C q t v k l m e)
        | no k ↦
            let i : t ≡ n = omega arith in
            d q ∙ or_right (has x q) (f q v (omega arith) m (ap (λ (w : ℕ). has w v) r ∙ (rw i at e)))
      ]

-- the places above the lowest state of a row
module _ (row l t a b r : ℕ) (e : l ≡ least capacity (has row)) (small : t < capacity) where
  lowest_le : (v : ℕ) → has row v ≡ true → l ≤ v
  lowest_le v m = rw e (least_at_most capacity (has row) v m)

  pub span_none : t ≤ l → (q v : ℕ) → q ≤ t → v < q → has row v ≡ true → has r q ≡ true
  span_none h q v i k m = absurd (omega (arith, lowest_le v m))

  pub span_some : ((s : ℕ) → has a s ≡ ltb s (t + 1)) → ((s : ℕ) → has b s ≡ ltb s (l + 1)) → ((s : ℕ) → has r s ≡ (has a s && not (has b s)))
      → (q v : ℕ) → q ≤ t → v < q → has row v ≡ true → has r q ≡ true
  span_some f g d q v i k m =
      d q
      ∙ and_intro (f q ∙ lt-ltb q (t + 1) (omega arith))
      (ap not (g q ∙ le-ltb q (l + 1) (omega (arith, lowest_le v m))))

pub block_whole : (rows : List ℕ) (n left s : ℕ) → Block rows n left s left
block_whole rows n left s = record { inside = λ t h. h; own = λ h. h; backward = λ b t u i m h. i }

-- what is left below the next place that nothing crosses
module _ (places n left s below' more free : ℕ) (small : n ≤ capacity) (l : s < n) (f : (t : ℕ) → has below' t ≡ ltb t n)
    (g : (t : ℕ) → has more t ≡ (has places t || ltb t (s + 1))) (d : (t : ℕ) → has free t ≡ (has below' t && not (has more t))) where
  module _ (q : ℕ) (some : free ≢ 0) (e : q ≡ least capacity (has free)) where
    free_below : (t : ℕ) → has free t ≡ true → t < n
    free_below t h = ltb-true t n (sym (f t) ∙ and_left (has below' t) (not (has more t)) (sym (d t) ∙ h))

    free_here : has free q ≡ true
    free_here = lowest_in_lem capacity free q (small_word capacity free (λ t h. omega (arith, free_below t h))) some e

    pub free_small : q < n
    free_small = free_below q free_here

    apart : (has places q || ltb q (s + 1)) ≡ false
    apart = sym (g q) ∙ not_true (has more q) (and_right (has below' q) (not (has more q)) (sym (d q) ∙ free_here))

    pub block_below : (b r : ℕ) → ((t : ℕ) → has b t ≡ ltb t q) → ((t : ℕ) → has r t ≡ (has left t && has b t)) → (rows : List ℕ)
        → Crossed rows n places → Block rows n left s r
    block_below b r h k rows C = record {
      inside = λ t m. and_left (has left t) (has b t) (sym (k t) ∙ m);
      own = λ m. k s ∙ and_intro m (h s ∙ lt-ltb s q (omega (arith, ltb-false q (s + 1) (or_false_right (has places q) (ltb q (s + 1)) apart))));
      backward = λ w t u i m j.
          let o = ltb-true u q (sym (h u) ∙ and_right (has left u) (has b u) (sym (k u) ∙ j)) in
          k t ∙ and_intro i (h t ∙ lt-ltb t q (under t u (w t i) m o));
    }
      where
        under : (t u : ℕ) → t < n → has (get_or rows t 0) u ≡ true → u < q → t < q
        under t u i m j =
            elim (dec_lt t q) [
              | yes o ↦ o
              | no o ↦ clash (C q t u i (omega arith) j m) (or_false_left (has places q) (ltb q (s + 1)) apart)
            ]
