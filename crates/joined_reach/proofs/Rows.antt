-- Rows that are followed.
--
--   next_start, next_more, next_end              : the outputs that members of a set move to
--   grown_still, grown_more                      : a row that grows
--   Entering, entering_start, -more, -end        : the rows of all inputs that an input moves to
--   followed                                     : a row is followed
--   Closed, closed_start, closed_more, closed_end, closed-left  : what is found while rows wait
use Prim.Native.Nat.{ℕ, ◌+◌, ◌*◌, ◌/◌, ◌%◌, ◌^◌, ◌≤◌, ◌<◌}
use mathlib.Core.Path.{◌≡◌, refl, sym, ◌∙◌, ap}
use mathlib.Core.Bool.{Bool, true, false, ◌&&◌, ◌||◌, not}
use mathlib.Core.List.{List}
use mathlib.Core.Logic.{◌⊎◌, inl, inr, ◌≢◌}
use native.Mathlib.Omega.{arith}
use native.Mathlib.Decide.{ℕ_discrete}
use lib.Dec.{eqb}
use lib.ListN.{length, get_or, set, length-set}
use lib.Seq.{get_or-set_same, get_or-set_other}
use borrow.Author.Tests.{eqb-true, eq-eqb}
use Rattle.finite.specs.Bounded.{least, count}
use Rattle.finite.proofs.Truth.{
  decide,
  clash,
  false_of,
  and_intro,
  and_left,
  or_left,
  or_right,
  or_cases,
  or_none,
  or_false_left,
  or_false_right,
  not_true,
  not_false,
}
use Rattle.finite.proofs.Bounded.{all_elim, all_false, count_le}
use Rattle.finite.specs.But.{ButFor}
use Rattle.finite.proofs.But.{but_self, but_set, but_then, but_wider}
use Rattle.bits.specs.Member.{has, implies, subset}
use Rattle.bits.proofs.Membership.{has_zero_lem, has_lt}
use Rattle.bits.proofs.Visit.{small_word, lowest_below, lowest_in_lem, lowest_less}
use Rattle.bits.proofs.Remove.{less_in, less_out, less_other, less_falls}
use Rattle.graphs.specs.Graph.{edge}
use Rattle.graphs.proofs.Graph.{edge_to}
use Rattle.joint.specs.Close.{Closing, Taken}
use Rattle.joint.proofs.Close.{closing_start, closing_taken, closing_grows, closing_end}
use Rattle.game.specs.declared.Game.{Game}
use Rattle.play.specs.Play.{graph_of, separated_of}
use Rattle.scratch_clearing.specs.Clearing.{cleared}
use Rattle.joined_reach.specs.Words.{belongs, Small}
use Rattle.joined_reach.specs.Reach.{Next, Grown, Entered, Waiting, Followed, Reached}
use Rattle.joined_reach.proofs.Words.{belongs_has, belongs_below, belongs_in, found_has, kept_cleared, cleared_zero}

-- ---- the outputs that members of a set move to

-- the members of x but for those of `rest` have been followed, and y are the outputs that they move to
pub record Nexting (g : Game) (x rest y : ℕ) : Type 0 where
  pub small : rest < 2 ^ 64
  pub inside : (p : ℕ) → has rest p ≡ true → has x p ≡ true
  pub new : (q : ℕ) → has y q ≡ true → (p : ℕ) × (has x p ≡ true) × (edge (graph_of g.output) p q ≡ true)
  pub all : (p q : ℕ) → has x p ≡ true → has rest p ≡ false → edge (graph_of g.output) p q ≡ true → has y q ≡ true

module _ (g : Game) (x : ℕ) where
  pub next_start : x < 2 ^ 64 → Nexting g x x 0
  next_start b = record { small = b; inside = λ p h. h; new = λ q h. clash h (has_zero_lem q); all = λ p q h k e. clash h k }

  module _ (rest y : ℕ) (N : Nexting g x rest y) where
    module _ (ne : rest ≢ 0) (p : ℕ) (e : p ≡ least 64 (has rest)) where
      pub next_member_lem : has x p ≡ true
      next_member_lem = N.inside p (lowest_in_lem 64 rest p N.small ne e)

      module _ (r : ℕ) (d : (s : ℕ) → has r s ≡ (has rest s && not (eqb s (least 64 (has rest))))) where
        d' : (s : ℕ) → has r s ≡ (has rest s && not (eqb s p))
        d' = lowest_less 64 rest p r e d

        pub next_falls : count 64 (has r) < count 64 (has rest)
        next_falls = less_falls rest p r d' 64 (lowest_below 64 rest p N.small ne e) (lowest_in_lem 64 rest p N.small ne e)

        pub next_more : r < 2 ^ 64 → (m z : ℕ) → ((q : ℕ) → has m q ≡ edge (graph_of g.output) p q) → ((q : ℕ) → has z q ≡ (has y q || has m q))
            → Nexting g x r z
        next_more b m z u v = record {
          small = b;
          inside = λ q h. N.inside q (less_in rest p r d' q h);
          new = λ q h. new q (or_cases (has y q) (has m q) (sym (v q) ∙ h));
          all = λ a q h k f. v q ∙ all a q h k f (ℕ_discrete a p);
        }
          where
            new : (q : ℕ) → (has y q ≡ true) ⊎ (has m q ≡ true) → (a : ℕ) × (has x a ≡ true) × (edge (graph_of g.output) a q ≡ true)
            new q (inl h) = N.new q h
            new q (inr h) = (p, next_member_lem, sym (u q) ∙ h)

            all : (a q : ℕ) → has x a ≡ true → has r a ≡ false → edge (graph_of g.output) a q ≡ true → Dec (a ≡ p) → (has y q || has m q) ≡ true
            all a q h k f (yes z) = or_right (has y q) (u q ∙ ap (λ (t : ℕ). edge (graph_of g.output) t q) (sym z) ∙ f)
            all a q h k f (no z) = or_left (has m q) (N.all a q h (sym (less_other rest p r d' a z) ∙ k) f)

    pub next_end : rest ≡ 0 → Next g x y
    next_end z = record { new = N.new; all = λ p q h f. N.all p q h (ap (λ (t : ℕ). has t p) z ∙ has_zero_lem p) f }

-- ---- a row that grows

implies_in : (x y s : ℕ) → implies x y s ≡ true → has x s ≡ true → has y s ≡ true
unfolding implies
implies_in x y s h k = elim (or_cases (not (has x s)) (has y s) h) [ inl f ↦ clash k (not_true (has x s) f) | inr f ↦ f ]

implies_out : (x y s : ℕ) → implies x y s ≡ false → (has x s ≡ true) × (has y s ≡ false)
unfolding implies
implies_out x y s h = (not_false (has x s) (or_false_left (not (has x s)) (has y s) h), or_false_right (not (has x s)) (has y s) h)

subset_in : (x y : ℕ) → x < 2 ^ 64 → subset 64 x y ≡ true → (s : ℕ) → has x s ≡ true → has y s ≡ true
unfolding subset
subset_in x y b h s k = implies_in x y s (all_elim 64 (implies x y) h s (has_lt 64 x s b k)) k

subset_out : (x y : ℕ) → subset 64 x y ≡ false → (s : ℕ) × (has x s ≡ true) × (has y s ≡ false)
unfolding subset
subset_out x y h = let v = all_false 64 (implies x y) h in let w = implies_out x y v.0 v.2 in (v.0, w.0, w.1)

module _ (j y w : ℕ) (l : List ℕ) where
  pub grown_still : y < 2 ^ 64 → {t : Bool} → t ≡ subset 64 y (get_or l j 0) → t ≡ true → Grown j y w w l l
  grown_still b f h = record {
    long = refl;
    row = λ q. row q (decide (has y q));
    others = λ k n. refl;
    waits = λ k a. inl a;
    still = λ k a. (a, λ e. sub);
  }
    where
      sub : (q : ℕ) → has y q ≡ true → has (get_or l j 0) q ≡ true
      sub = subset_in y (get_or l j 0) b (sym f ∙ h)

      row : (q : ℕ) → (has y q ≡ true) ⊎ (has y q ≡ false) → has (get_or l j 0) q ≡ (has (get_or l j 0) q || has y q)
      row q (inl a) = sub q a ∙ sym (or_left (has y q) (sub q a))
      row q (inr a) = sym (or_none (has (get_or l j 0) q) a)

  pub grown_more : (v w' : ℕ) → j < length l → {t : Bool} → t ≡ subset 64 y (get_or l j 0) → t ≡ false
      → ((q : ℕ) → has v q ≡ (has (get_or l j 0) q || has y q)) → ((k : ℕ) → has w' k ≡ (has w k || eqb k j)) → Grown j y w w' l (set l j v)
  grown_more v w' b f h e i = record {
    long = length-set l j v;
    row = λ q. ap (λ (x : ℕ). has x q) (get_or-set_same l j v 0 b) ∙ e q;
    others = λ k n. get_or-set_other l j k v 0 n;
    waits = λ k a. waits k (or_cases (has w k) (eqb k j) (sym (i k) ∙ a));
    still = λ k a. (or_false_left (has w k) (eqb k j) (sym (i k) ∙ a), λ z. clash (eq-eqb k j z) (or_false_right (has w k) (eqb k j) (sym (i k) ∙ a)));
  }
    where
      waits : (k : ℕ) → (has w k ≡ true) ⊎ (eqb k j ≡ true) → (has w k ≡ true) ⊎ ((k ≡ j) × ((q : ℕ) × (has y q ≡ true) × (has (get_or l j 0) q ≡ false)))
      waits k (inl a) = inl a
      waits k (inr a) = inr (eqb-true k j a, subset_out y (get_or l j 0) (sym f ∙ h))

-- ---- the rows of all inputs that an input moves to

-- x are those inputs; those of `rest` are still to be entered.
pub record Entering (x y w rest w' : ℕ) (l m : List ℕ) : Type 0 where
  pub small : rest < 2 ^ 64
  pub inside : (k : ℕ) → has rest k ≡ true → has x k ≡ true
  pub kept : ButFor 0 32 l m
  untouched : (k : ℕ) → has rest k ≡ true → get_or m k 0 ≡ get_or l k 0
  pub found : (k q : ℕ) → has rest k ≡ false → has (get_or m k 0) q ≡ (has (get_or l k 0) q || (has x k && has y q))
  pub waits : (k : ℕ) → has w' k ≡ true → (has w k ≡ true) ⊎ ((q : ℕ) × (has (get_or m k 0) q ≡ true) × (has (get_or l k 0) q ≡ false))
  pub still : (k : ℕ) → has w' k ≡ false → (has w k ≡ false) × ((q : ℕ) → has (get_or m k 0) q ≡ true → has (get_or l k 0) q ≡ true)
  pub inputs : (k : ℕ) → has w' k ≡ true → (has w k ≡ true) ⊎ (has x k ≡ true)

module _ (x y w : ℕ) (l : List ℕ) where
  pub entering_start : x < 2 ^ 64 → Entering x y w x w l l
  entering_start b = record {
    small = b;
    inside = λ k h. h;
    kept = but_self 0 32 l;
    untouched = λ k h. refl;
    found = λ k q h. rw h (sym (or_none (has (get_or l k 0) q) refl));
    waits = λ k h. inl h;
    still = λ k h. (h, λ q a. a);
    inputs = λ k h. inl h;
  }

  module _ (rest v : ℕ) (m : List ℕ) (E : Entering x y w rest v l m) where
    module _ (ne : rest ≢ 0) (j : ℕ) (e : j ≡ least 64 (has rest)) where
      here : has rest j ≡ true
      here = lowest_in_lem 64 rest j E.small ne e

      pub entering_member : has x j ≡ true
      entering_member = E.inside j here

      module _ (t : ℕ) (d : (s : ℕ) → has t s ≡ (has rest s && not (eqb s (least 64 (has rest))))) where
        without : (s : ℕ) → has t s ≡ (has rest s && not (eqb s j))
        without = lowest_less 64 rest j t e d

        pub entering_falls : count 64 (has t) < count 64 (has rest)
        entering_falls = less_falls rest j t without 64 (lowest_below 64 rest j E.small ne e) here

        pub entering_more : j < 32 → t < 2 ^ 64 → (v' : ℕ) (m' : List ℕ) → Grown j y v v' m m' → Entering x y w t v' l m'
        entering_more a b v' m' G = record {
          small = b;
          inside = λ k h. E.inside k (less_in rest j t without k h);
          kept = but_then E.kept grew;
          untouched = λ k h. G.others k (apart k h) ∙ E.untouched k (less_in rest j t without k h);
          found = λ k q h. found k q h (ℕ_discrete k j);
          waits = λ k h. waits k (G.waits k h);
          still = λ k h. still k (G.still k h) (ℕ_discrete k j);
          inputs = λ k h. inputs k (G.waits k h);
        }
          where
            grew : ButFor 0 32 m m'
            grew = record {
              long = G.long;
              low = λ k h. absurd (omega arith);
              high = λ k h. G.others k (λ z. omega arith);
            }

            apart : (k : ℕ) → has t k ≡ true → k ≢ j
            apart k h z = clash h (ap (has t) z ∙ less_out rest j t without)

            old : (q : ℕ) → has (get_or m j 0) q ≡ has (get_or l j 0) q
            old q = ap (λ (u : ℕ). has u q) (E.untouched j here)

            found : (k q : ℕ) → has t k ≡ false → Dec (k ≡ j) → has (get_or m' k 0) q ≡ (has (get_or l k 0) q || (has x k && has y q))
            found k q h (yes z) = rw (z, E.inside j here) (G.row q ∙ ap (λ (u : Bool). u || has y q) (old q))
            found k q h (no z) = ap (λ (u : ℕ). has u q) (G.others k z) ∙ E.found k q (sym (less_other rest j t without k z) ∙ h)

            more : (k q : ℕ) → has (get_or m k 0) q ≡ true → Dec (k ≡ j) → has (get_or m' k 0) q ≡ true
            more k q h (yes z) = ap (λ (u : ℕ). has (get_or m' u 0) q) z ∙ G.row q ∙ or_left (has y q) (ap (λ (u : ℕ). has (get_or m u 0) q) (sym z) ∙ h)
            more k q h (no z) = ap (λ (u : ℕ). has u q) (G.others k z) ∙ h

            waits : (k : ℕ) → (has v k ≡ true) ⊎ ((k ≡ j) × ((q : ℕ) × (has y q ≡ true) × (has (get_or m j 0) q ≡ false)))
                → (has w k ≡ true) ⊎ ((q : ℕ) × (has (get_or m' k 0) q ≡ true) × (has (get_or l k 0) q ≡ false))
            waits k (inl h) =
                elim (E.waits k h) [
                  | inl f ↦ inl f
                  | inr f ↦ inr (f.0, more k f.0 f.1 (ℕ_discrete k j), f.2)
                ]
            waits k (inr h) =
                let q : ℕ = h.1.0 in
                inr (q, rw h.0 (G.row q ∙ or_right (has (get_or m j 0) q) h.1.1), rw h.0 (sym (old q) ∙ h.1.2))

            still : (k : ℕ) → (has v k ≡ false) × (k ≡ j → (q : ℕ) → has y q ≡ true → has (get_or m j 0) q ≡ true) → Dec (k ≡ j)
                → (has w k ≡ false) × ((q : ℕ) → has (get_or m' k 0) q ≡ true → has (get_or l k 0) q ≡ true)
            still k h (no z) = let s = E.still k h.0 in (s.0, λ q f. s.1 q (ap (λ (u : ℕ). has u q) (sym (G.others k z)) ∙ f))
            still k h (yes z) =
                let s = E.still k h.0 in (
                  s.0,
                  λ q f. rw z (sym (old q) ∙ same q
                      (or_cases (has (get_or m j 0) q) (has y q) (sym (G.row q) ∙ ap (λ (u : ℕ). has (get_or m' u 0) q) (sym z) ∙ f))),
                )
              where
                same : (q : ℕ) → (has (get_or m j 0) q ≡ true) ⊎ (has y q ≡ true) → has (get_or m j 0) q ≡ true
                same q (inl f) = f
                same q (inr f) = h.1 z q f

            inputs : (k : ℕ) → (has v k ≡ true) ⊎ ((k ≡ j) × ((q : ℕ) × (has y q ≡ true) × (has (get_or m j 0) q ≡ false)))
                → (has w k ≡ true) ⊎ (has x k ≡ true)
            inputs k (inl h) = E.inputs k h
            inputs k (inr h) = inr (rw h.0 entering_member)

    pub entering_end : rest ≡ 0 → (g : Game) (r : ℕ) → ((k : ℕ) → has x k ≡ edge (graph_of g.input) r k) → Entered g r y w v l m
    unfolding graph_of
    entering_end z g r f = record {
      kept = E.kept;
      found = λ k q c. E.found k q (ap (λ (t : ℕ). has t k) z ∙ has_zero_lem k) ∙ ap (λ (t : Bool). has (get_or l k 0) q || (t && has y q)) (f k);
      waits = E.waits;
      still = E.still;
      inputs = λ k h. inputs k (E.inputs k h);
    }
      where
        inputs : (k : ℕ) → (has w k ≡ true) ⊎ (has x k ≡ true) → (has w k ≡ true) ⊎ (k < g.input.states)
        inputs k (inl h) = inl h
        inputs k (inr h) = inr (edge_to (graph_of g.input) r k (sym (f k) ∙ h))

-- ---- a row is followed

module _ (g : Game) (S : Small g) (w : ℕ) (l : List ℕ) (W : Waiting g w l) (small : w < 2 ^ 64) (ne : w ≢ 0) (r : ℕ) (e : r ≡ least 64 (has w)) where
  pub follow_below : r < g.input.states
  follow_below = W.inputs r (lowest_in_lem 64 w r small ne e)

  -- x is what was found in row r since it was followed last
  module _ (long : 4096 ≤ length l) (x : ℕ) (d : (p : ℕ) → has x p ≡ (has (get_or l r 0) p && not (has (get_or l (32 + r) 0) p))) where
    pub follow_within : (p : ℕ) → has x p ≡ true → p < g.output.states
    follow_within p h = W.within.outputs r p follow_below (and_left (has (get_or l r 0) p) (not (has (get_or l (32 + r) 0) p)) (sym (d p) ∙ h))

    module _ (y v w' : ℕ) (m : List ℕ) (N : Next g x y) (u : (k : ℕ) → has v k ≡ (has w k && not (eqb k (least 64 (has w)))))
        (E : Entered g r y v w' (set l (32 + r) (get_or l r 0)) m) where
      -- the rows of what is found are not those of what is followed
      row : (k : ℕ) → k < g.input.states → get_or (set l (32 + r) (get_or l r 0)) k 0 ≡ get_or l k 0
      row k b = get_or-set_other l (32 + r) k (get_or l r 0) 0 (λ z. omega (arith, S.inputs))

      mine : get_or m (32 + r) 0 ≡ get_or l r 0
      mine = E.kept.high (32 + r) (omega arith) ∙ get_or-set_same l (32 + r) (get_or l r 0) 0 (omega (arith, follow_below, S.inputs))

      other : (k : ℕ) → k ≢ r → get_or m (32 + k) 0 ≡ get_or l (32 + k) 0
      other k z = E.kept.high (32 + k) (omega arith) ∙ get_or-set_other l (32 + r) (32 + k) (get_or l r 0) 0 (λ q. z (omega arith))

      without_r : (k : ℕ) → has v k ≡ true → (k ≢ r) × (has w k ≡ true)
      without_r k h =
          let f : (s : ℕ) → has v s ≡ (has w s && not (eqb s r)) = lowest_less 64 w r v e u in
          (λ z. clash h (ap (has v) z ∙ less_out w r v f), less_in w r v f k h)

      taken : Taken (separated_of g) r (has y) (has w) (belongs g.input.states 32 l) (belongs g.input.states 0 l) (has w')
          (belongs g.input.states 32 m) (belongs g.input.states 0 m)
      unfolding separated_of graph_of
      taken = record {
        below = follow_below;
        new = λ q h. let a = N.new q h in (
          a.0,
          found_has g.input.states l r a.0 follow_below
              ∙ and_left (has (get_or l r 0) a.0) (not (has (get_or l (32 + r) 0) a.0)) (sym (d a.0) ∙ a.1),
          a.2,
        );
        all = λ p q h f c. N.all p q
            (d p ∙ and_intro (sym (found_has g.input.states l r p follow_below)
            ∙ h) (ap not (sym (belongs_has g.input.states 32 l r p follow_below) ∙ f))) c;
        found = λ k q b. found_has g.input.states m k q b ∙ E.found k q b
            ∙ ap (λ (t : Bool). t || (edge (graph_of g.input) r k && has y q)) (ap (λ (t : ℕ). has t q) (row k b)
            ∙ sym (found_has g.input.states l k q b));
        here = λ q. belongs_has g.input.states 32 m r q follow_below ∙ ap (λ (t : ℕ). has t q) mine ∙ sym (found_has g.input.states l r q follow_below);
        others = λ k q b z. belongs_has g.input.states 32 m k q b ∙ ap (λ (t : ℕ). has t q) (other k z) ∙ sym (belongs_has g.input.states 32 l k q b);
        waits = λ k b h. waits k b (E.waits k h);
        still = λ k b h. still k b (E.still k h);
      }
        where
          waits : (k : ℕ) → k < g.input.states
              → (has v k ≡ true) ⊎ ((q : ℕ) × (has (get_or m k 0) q ≡ true) × (has (get_or (set l (32 + r) (get_or l r 0)) k 0) q ≡ false))
              → ((k ≢ r) × (has w k ≡ true)) ⊎ ((q : ℕ) × (belongs g.input.states 0 m k q ≡ true) × (belongs g.input.states 0 l k q ≡ false))
          waits k b (inl h) = inl (without_r k h)
          waits k b (inr h) =
              inr (
                h.0,
                found_has g.input.states m k h.0 b ∙ h.1,
                found_has g.input.states l k h.0 b
                    ∙ ap (λ (t : ℕ). has t h.0) (sym (row k b)) ∙ h.2,
              )

          gone : (k : ℕ) → has v k ≡ false → Dec (k ≡ r) → (k ≡ r) ⊎ (has w k ≡ false)
          gone k h (yes z) = inl z
          gone k h (no z) = inr (sym (less_other w r v (lowest_less 64 w r v e u) k z) ∙ h)

          still : (k : ℕ) → k < g.input.states
              → (has v k ≡ false) × ((q : ℕ) → has (get_or m k 0) q ≡ true → has (get_or (set l (32 + r) (get_or l r 0)) k 0) q ≡ true)
              → ((k ≡ r) ⊎ (has w k ≡ false)) × ((q : ℕ) → belongs g.input.states 0 m k q ≡ true → belongs g.input.states 0 l k q ≡ true)
          still k b h = (
            gone k h.0 (ℕ_discrete k r),
            λ q a. found_has g.input.states l k q b ∙ ap (λ (t : ℕ). has t q) (sym (row k b)) ∙ h.1 q (sym (found_has g.input.states m k q b) ∙ a),
          )

      pub followed : Followed g w w' l m
      followed = record {
        kept = but_then (but_set 0 64 l (32 + r) (get_or l r 0) (omega arith) (omega (arith, follow_below, S.inputs)))
            (but_wider 0 64 (omega arith) (omega arith) E.kept);
        next = y;
        taken = rw e at taken;
        inputs = λ k h. elim (E.inputs k h) [ inl a ↦ inl (without_r k a).1 | inr a ↦ inr a ];
      }

-- ---- what is found while rows wait

pub record Closed (g : Game) (i o : ℕ) (l : List ℕ) (w : ℕ) (m : List ℕ) : Type 0 where
  pub kept : ButFor 0 64 l m
  pub inputs : (j : ℕ) → has w j ≡ true → j < g.input.states
  pub closing : Closing (separated_of g) i o (has w) (belongs g.input.states 32 m) (belongs g.input.states 0 m)

-- how many positions have been followed
unfoldable pub followed_count : Game → List ℕ → ℕ
followed_count g m =
    count (g.input.states * g.output.states) (λ c. belongs g.input.states 32 m (c / g.output.states) (c % g.output.states))

pub followed_most : (g : Game) (m : List ℕ) → followed_count g m ≤ g.input.states * g.output.states
unfolding followed_count
followed_most g m =
    count_le (g.input.states * g.output.states) (λ c. belongs g.input.states 32 m (c / g.output.states) (c % g.output.states))

pub begun_kept : (g : Game) (i v : ℕ) (l m : List ℕ) → i < g.input.states → Small g → 4096 ≤ length l → m ≡ cleared 64 l → ButFor 0 64 l (set m i v)
begun_kept g i v l m a S long e =
    but_then (kept_cleared 64 l m (omega arith) e) (but_set 0 64 m i v (omega arith) (omega (arith, S.inputs)))

module _ (g : Game) (i o : ℕ) (l : List ℕ) where
  pub closed_start : i < g.input.states → o < g.output.states → Small g → 4096 ≤ length l → (w v : ℕ) (m : List ℕ) → m ≡ cleared 64 l
      → ((q : ℕ) → has v q ≡ (has 0 q || eqb q o)) → ((k : ℕ) → has w k ≡ (has 0 k || eqb k i)) → Closed g i o (set m i v) w (set m i v)
  unfolding separated_of graph_of
  closed_start a b S long w v m e f h = record {
    kept = but_self 0 64 (set m i v);
    inputs = λ j c. rw (waits j c) a;
    closing = closing_start (separated_of g) i o a b (has w) (belongs g.input.states 32 (set m i v)) (belongs g.input.states 0
        (set m i v)) root only none (λ j c d z. rest j d z)
        (λ j c d. waits j d);
  }
    where
      fits : i < length m
      fits = omega (arith, (kept_cleared 64 l m (omega arith) e).long, S.inputs)

      waits : (j : ℕ) → has w j ≡ true → j ≡ i
      waits j c = eqb-true j i (elim (or_cases (has 0 j) (eqb j i) (sym (h j) ∙ c)) [ inl z ↦ clash z (has_zero_lem j) | inr z ↦ z ])

      rest : (j : ℕ) → has w j ≡ false → j ≢ i
      rest j d z = clash (eq-eqb j i z) (or_false_right (has 0 j) (eqb j i) (sym (h j) ∙ d))

      root : belongs g.input.states 0 (set m i v) i o ≡ true
      root = found_has g.input.states (set m i v) i o a ∙ ap (λ (x : ℕ). has x o) (get_or-set_same m i v 0 fits) ∙ f o ∙ or_right (has 0 o) (eq-eqb o o refl)

      only : (j p : ℕ) → j < g.input.states → belongs g.input.states 0 (set m i v) j p ≡ true → (j ≡ i) × (p ≡ o)
      only j p c d = go (ℕ_discrete j i) (sym (found_has g.input.states (set m i v) j p c) ∙ d)
        where
          go : Dec (j ≡ i) → has (get_or (set m i v) j 0) p ≡ true → (j ≡ i) × (p ≡ o)
          go (yes z) q = (
            z,
            eqb-true p o
                (elim (or_cases (has 0 p) (eqb p o) (sym (f p) ∙ ap (λ (x : ℕ). has x p) (sym (get_or-set_same m i v 0 fits))
                ∙ ap (λ (x : ℕ). has (get_or (set m i v) x 0) p) (sym z) ∙ q)) [ inl t ↦ clash t (has_zero_lem p) | inr t ↦ t ]),
          )
          go (no z) q =
              clash q (ap (λ (x : ℕ). has x p) (get_or-set_other m i j v 0 z ∙ cleared_zero 64 l m e j (omega (arith, S.inputs))) ∙ has_zero_lem p)

      none : (j p : ℕ) → belongs g.input.states 32 (set m i v) j p ≡ false
      none j p =
          false_of (belongs g.input.states 32 (set m i v) j p)
          (λ c. let d : j < g.input.states = belongs_below g.input.states 32 (set m i v) j p c in
          clash (belongs_in g.input.states 32 (set m i v) j p c)
          (ap (λ (x : ℕ). has x p)
          (get_or-set_other m i (32 + j) v 0 (λ z. omega (arith, S.inputs)) ∙ cleared_zero 64 l m e (32 + j) (omega (arith, S.inputs)))
          ∙ has_zero_lem p))

  module _ (w : ℕ) (m : List ℕ) (C : Closed g i o l w m) where
    pub closed_waiting : Waiting g w m
    unfolding separated_of graph_of
    closed_waiting = record {
      inputs = C.inputs;
      within = record { outputs = λ j p b h. C.closing.outputs j p b (found_has g.input.states m j p b ∙ h) };
    }

    module _ (w' : ℕ) (m' : List ℕ) (F : Followed g w w' m m') where
      pub closed_more : Closed g i o l w' m'
      closed_more = record {
        kept = but_then C.kept F.kept;
        inputs = λ j h. elim (F.inputs j h) [ inl a ↦ C.inputs j a | inr a ↦ a ];
        closing = closing_taken (separated_of g) i o (has w) (belongs g.input.states 32 m) (belongs g.input.states 0 m) C.closing
            (least 64 (has w)) (has F.next) (has w') (belongs g.input.states 32 m') (belongs g.input.states 0 m') F.taken;
      }

      pub closed_falls : Small g → w ≢ 0 → followed_count g m < followed_count g m'
      unfolding followed_count separated_of graph_of
      closed_falls S ne =
          closing_grows (separated_of g) i o (has w) (belongs g.input.states 32 m) (belongs g.input.states 0 m) C.closing
          (least 64 (has w)) (has F.next) (has w') (belongs g.input.states 32 m') (belongs g.input.states 0 m') F.taken
          (lowest_in_lem 64 w (least 64 (has w)) (small_word 64 w (λ j h. omega (arith, C.inputs j h, S.inputs))) ne refl)

    pub closed_end : {d : List ℕ} → ButFor 0 64 d l → w ≡ 0 → Reached g i o d m
    unfolding separated_of graph_of
    closed_end K z = record {
      kept = but_then K C.kept;
      within = closed_waiting.within;
      found = λ j p a b. sym (found_has g.input.states m j p a)
          ∙ closing_end (separated_of g) i o (has w) (belongs g.input.states 32 m) (belongs g.input.states 0 m) C.closing
          (λ k c. ap (λ (t : ℕ). has t k) z ∙ has_zero_lem k) j p a b;
    }
