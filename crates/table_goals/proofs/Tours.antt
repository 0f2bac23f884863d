-- A tour of the component of c in words: what the searches and the counters give is what `tour` says.
--
--   met_pack               : the sets that meet the component, from its states as a word
--   goals_none, goals_some : whether some set meets the component
--   goals_from             : a counter, with the word of the sets that meet the component
--   goal_word              : the first member from g on is the goal
--   inside_kept            : moves inside the component
--   prefer_inside          : the choice from the moves inside
--   target_word            : a goal's members in the component
--   tour_rests             : with no goal, the choice from the moves inside
--   tour_aims              : else the move towards the goal
use Prim.Native.Nat.{ℕ, ◌≤◌, ◌<◌}
use mathlib.Core.Path.{◌≡◌, refl, sym, ◌∙◌, ap, ap₂, fun_ext}
use mathlib.Core.Bool.{Bool, true, false, ◌&&◌}
use mathlib.Core.List.{List}
use mathlib.Core.Logic.{◌≢◌}
use native.Mathlib.Omega.{arith}
use lib.ListN.{length, get_or}
use Rattle.finite.proofs.Truth.{and_intro, and_left, and_right, same_test}
use Rattle.finite.specs.Bounded.{any}
use Rattle.finite.proofs.Bounded.{any_intro, any_elim, any_none, least_same}
use Rattle.bits.specs.Member.{has, pack}
use Rattle.bits.proofs.Membership.{has_zero_lem, has_pack_below, has_lt, pack_lt, pack_ext, lt_within}
use Rattle.bits.proofs.Compare.{nonzero_member}
use Rattle.sets.specs.Words.{capacity}
use Rattle.table_counters.specs.Counters.{counter_capacity}
use Rattle.graphs.specs.Graph.{Graph}
use Rattle.graphs.specs.Component.{joined, nontrivial, meets_at}
use Rattle.graphs.specs.Way.{prefer, toward}
use Rattle.graphs.proofs.Graph.{edge_intro, edge_moves}
use Rattle.graphs.proofs.Component.{joined_to, meets_at_intro, meets_at_elim}
use Rattle.arena.specs.Table.{Answer, gives}
use Rattle.theory.specs.Tour.{goal_at, around, inside, ahead, goal, has_goal, target, arrive, tour}
use Rattle.theory.proofs.Around.{around_below}
use Rattle.graphs.proofs.Way.{Leads}
use Rattle.theory.proofs.Tour.{inside_intro, inside_edge, inside_to, inside_move, inside_leads}
use Rattle.graph_ways.specs.Kept.{kept}
use Rattle.graph_ways.proofs.Kept.{kept_pack, members_pack}
use Rattle.graphs.proofs.Way.{prefer_same, prefer_wider}
use Rattle.table_goals.specs.Goal.{Goals, first_from, passed_counter}
use Rattle.table_goals.specs.Ranges.{met_in}

-- the sets that meet the component, whose states are the word x
met_meets : (G : Graph) (c x : ℕ) → G.states ≤ capacity → ((t : ℕ) → has x t ≡ joined G c t) → (l : List (ℕ → Bool)) (a : ℕ)
    → met_in l x a ≡ meets_at G c (goal_at l a)
unfolding met_in
met_meets G c x few f l a =
    same_test (any capacity (λ t. goal_at l a t && has x t)) (meets_at G c (goal_at l a))
    (λ h. let v = any_elim capacity (λ t. goal_at l a t && has x t) h in
    meets_at_intro G c (goal_at l a) v.0 (and_left (goal_at l a v.0) (has x v.0) v.2)
    (sym (f v.0) ∙ and_right (goal_at l a v.0) (has x v.0) v.2))
    (λ h. let v = meets_at_elim G c (goal_at l a) h in
    any_intro capacity (λ t. goal_at l a t && has x t) v.0 (omega (arith, joined_to G c v.0 v.2)) (and_intro v.1 (f v.0 ∙ v.2)))

pub met_pack : (G : Graph) (c x : ℕ) → G.states ≤ capacity → ((t : ℕ) → has x t ≡ joined G c t) → (l : List (ℕ → Bool)) (n : ℕ)
    → pack n (met_in l x) ≡ pack n (λ a. meets_at G c (goal_at l a))
met_pack G c x few f l n = pack_ext n (met_in l x) (λ a. meets_at G c (goal_at l a)) (λ a b. met_meets G c x few f l a)

-- the sets that meet the component, as a word of their numbers
module _ (G : Graph) (c : ℕ) (l : List (ℕ → Bool)) (q : ℕ) (e : q ≡ pack (length l) (λ k. meets_at G c (goal_at l k))) where
  pub goal_meets : (a : ℕ) → a < length l → has q a ≡ meets_at G c (goal_at l a)
  goal_meets a b = ap (λ (x : ℕ). has x a) e ∙ has_pack_below (length l) (λ k. meets_at G c (goal_at l k)) a b

  pub goal_below : (a : ℕ) → has q a ≡ true → a < length l
  goal_below a h = has_lt (length l) q a (rw e (pack_lt (length l) (λ k. meets_at G c (goal_at l k)))) h

  pub goals_none : q ≡ 0 → has_goal G c l ≡ false
  unfolding has_goal
  goals_none z =
      any_none (length l) (λ k. meets_at G c (goal_at l k)) (λ k b. sym (goal_meets k b) ∙ ap (λ (x : ℕ). has x k) z ∙ has_zero_lem k)

  pub goals_some : q ≢ 0 → has_goal G c l ≡ true
  unfolding has_goal
  goals_some n =
      let m = nonzero_member q n in
      let b = goal_below m.0 m.1 in
      any_intro (length l) (λ k. meets_at G c (goal_at l k)) m.0 b (sym (goal_meets m.0 b) ∙ m.1)

  pub goals_from : (g : ℕ) → q ≢ 0 → length l ≤ counter_capacity → g < length l → Goals q (length l) g
  goals_from g n few b = record {
    some = n;
    members = rw e (lt_within (pack (length l) (λ k. meets_at G c (goal_at l k))) (length l) (pack_lt (length l) (λ k. meets_at G c (goal_at l k))));
    few = few;
    below = b;
  }

  pub goal_word : (g : ℕ) → g < length l → first_from (length l) q g ≡ goal G c l g
  unfolding first_from goal ahead
  goal_word g b =
      ap (around (length l) g)
      (least_same (length l) (λ k. has q (around (length l) g k)) (λ k. meets_at G c (goal_at l (around (length l) g k)))
      (λ k d. goal_meets (around (length l) g k) (around_below (length l) g k b (omega arith))))

arrive_passed : (l : List (ℕ → Bool)) (a t : ℕ) → arrive l a t ≡ gives (passed_counter (length l) (goal_at l a t) a) t
unfolding arrive passed_counter
arrive_passed l a t = go (goal_at l a t)
  where
    go : (b : Bool) → elim b as (λ x. Answer) [ true ↦ gives (around (length l) a 1) t | false ↦ gives a t ] ≡ gives
        (elim b [ true ↦ around (length l) a 1 | false ↦ a ]) t
    go true = refl
    go false = refl

-- the component as a word, and rows that hold the moves
module _ (G : Graph) (c : ℕ) (rows : List ℕ) (comp : ℕ)
    (same : (s t : ℕ) → s < G.states → t < G.states → G.moves s t ≡ has (get_or rows s 0) t)
    (e : comp ≡ pack G.states (joined G c)) where
  pub inside_kept : kept rows comp ≡ inside G c
  unfolding inside
  inside_kept = ap (kept rows) e ∙ kept_pack G rows same (joined G c)

  pub comp_has : has comp ≡ joined G c
  comp_has = ap has e ∙ members_pack G.states (joined G c) (joined_to G c)

  -- the choice from the moves inside
  pub prefer_inside : (s y : ℕ) → G.states ≤ capacity → joined G c s ≡ true → nontrivial G s ≡ true
      → ((t : ℕ) → has y t ≡ (has (get_or rows s 0) t && has comp t)) → prefer capacity s (has y) ≡ prefer G.states s (inside G c s)
  prefer_inside s y few a n f =
      let v = inside_move G c s a n in
      prefer_wider G.states capacity s (has y) v.0 few (λ t h. joined_to G c t (in_comp t h)) (of v.0 v.1)
      ∙ prefer_same G.states s (has y) (inside G c s) (λ t b. same_test (has y t) (inside G c s t) (to t b) (of t))
    where
      in_comp : (t : ℕ) → has y t ≡ true → joined G c t ≡ true
      in_comp t h = ap (λ (p : ℕ → Bool). p t) (sym comp_has) ∙ and_right (has (get_or rows s 0) t) (has comp t) (sym (f t) ∙ h)

      to : (t : ℕ) → t < G.states → has y t ≡ true → inside G c s t ≡ true
      to t b h =
          inside_intro G c s t
          (edge_intro G s t (joined_to G c s a) b (same s t (joined_to G c s a) b ∙ and_left (has (get_or rows s 0) t) (has comp t) (sym (f t) ∙ h)))
          a (in_comp t h)

      of : (t : ℕ) → inside G c s t ≡ true → has y t ≡ true
      of t h =
          let d = inside_to G c s t h in
          f t ∙ and_intro (sym (same s t (joined_to G c s a) (joined_to G c t d)) ∙ edge_moves G s t (inside_edge G c s t h))
          (ap (λ (p : ℕ → Bool). p t) comp_has ∙ d)

  module _ (l : List (ℕ → Bool)) (a x y : ℕ) (set : has x ≡ goal_at l a) (f : (t : ℕ) → has y t ≡ (has x t && has comp t)) where
    pub target_word : has y ≡ target G c l a
    unfolding target
    target_word = fun_ext (λ t. f t ∙ ap₂ ◌&&◌ (ap (λ (p : ℕ → Bool). p t) set) (ap (λ (p : ℕ → Bool). p t) comp_has))

    pub target_leads : meets_at G c (goal_at l a) ≡ true → (s : ℕ) → joined G c s ≡ true → nontrivial G s ≡ true
        → Leads G.states (inside G c) (target G c l a) s
    unfolding target
    target_leads m s j n =
        let v = meets_at_elim G c (goal_at l a) m in
        inside_leads G c (target G c l a) s v.0 j n (and_intro v.1 v.2) v.2

-- the moves of a tour

pub tour_rests : (G : Graph) (c : ℕ) (l : List (ℕ → Bool)) (s g p : ℕ) → has_goal G c l ≡ false → p ≡ prefer G.states s (inside G c s)
    → tour G c l s g ≡ gives g p
unfolding tour
tour_rests G c l s g p h e = rw (h, tour) (ap (gives g) (sym e))

pub tour_aims : (G : Graph) (c : ℕ) (l : List (ℕ → Bool)) (s g a t : ℕ) → has_goal G c l ≡ true → a ≡ goal G c l g
    → t ≡ toward G.states (inside G c) (target G c l a) s → tour G c l s g ≡ gives (passed_counter (length l) (goal_at l a t) a) t
unfolding tour
tour_aims G c l s g a t h e f =
    rw (h, tour)
    (ap₂ (arrive l) (sym e) (ap (λ (k : ℕ). toward G.states (inside G c) (target G c l k) s) (sym e) ∙ sym f) ∙ arrive_passed l a t)
