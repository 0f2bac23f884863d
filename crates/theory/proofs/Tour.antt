-- The tour, once for both sides: every set that meets the component is entered within (number of sets) × (number of states) moves.
--
--   Toured                 == what a move of the tour does
--   toured                 : every move of a tour in a nontrivial component does that
--   to_go q s g             == the number that falls until set q is entered; at most sets × states
use Prim.Native.Nat.{ℕ, suc, ◌+◌, ◌*◌, ◌≤◌, ◌<◌, max}
use native.Mathlib.Nat.{mul-le-mul_right, suc-mul, max-eq_right, le-max_right}
use mathlib.Core.Path.{◌≡◌, refl, sym, ◌∙◌, ap, subst, subst⁻¹}
use mathlib.Core.Bool.{Bool, true, false, ◌&&◌}
use mathlib.Core.List.{List}
use mathlib.Core.Logic.{◌⊎◌, inl, inr}
use native.Mathlib.Omega.{arith}
use native.Mathlib.Decide.{dec_lt}
use lib.ListN.{length}
use Rattle.finite.proofs.Truth.{decide, clash, and_intro, and_left, and_right}
use Rattle.finite.proofs.Bounded.{any_intro, any_elim, least_member, least_at_most}
use Rattle.graphs.specs.Walk.{Walk, stay, step}
use Rattle.graphs.specs.Graph.{Graph, edge}
use Rattle.graphs.specs.Component.{joined, nontrivial, meets_at}
use Rattle.graphs.specs.Way.{approach, prefer, toward}
use Rattle.graphs.proofs.Graph.{edge_from, edge_to}
use Rattle.graphs.proofs.Closure.{Path, reaches_edge, reaches_trans, reaches_path, path_reaches}
use Rattle.graphs.proofs.Component.{
  joined_intro,
  joined_there,
  joined_back,
  joined_sym,
  joined_trans,
  joined_to,
  nontrivial_move,
  nontrivial_same,
  meets_at_elim,
}
use Rattle.graphs.proofs.Way.{Leads, near_some, prefer_member, approach_below, toward_move, toward_falls}
use Rattle.arena.specs.Table.{gives}
use Rattle.theory.specs.Tour.{goal_at, around, inside, ahead, goal, has_goal, target, arrive, tour}
use Rattle.theory.proofs.Around.{
  around_below,
  around_none,
  distance,
  distance_below,
  distance_around,
  distance_zero,
  around_distance,
}

module _ (G : Graph) (c : ℕ) where
  pub inside_intro : (s t : ℕ) → edge G s t ≡ true → joined G c s ≡ true → joined G c t ≡ true → inside G c s t ≡ true
  unfolding inside
  inside_intro s t e a b = and_intro e (and_intro a b)

  pub inside_edge : (s t : ℕ) → inside G c s t ≡ true → edge G s t ≡ true
  unfolding inside
  inside_edge s t h = and_left (edge G s t) (joined G c s && joined G c t) h

  pub inside_to : (s t : ℕ) → inside G c s t ≡ true → joined G c t ≡ true
  unfolding inside
  inside_to s t h = and_right (joined G c s) (joined G c t) (and_right (edge G s t) (joined G c s && joined G c t) h)

  pub inside_below : (s t : ℕ) → inside G c s t ≡ true → s < G.states
  inside_below s t h = edge_from G s t (inside_edge s t h)

  -- a walk between two states of a component stays inside it
  path_inside : {s t : ℕ} → Path G s t → joined G c s ≡ true → joined G c t ≡ true → Walk (λ (a b : ℕ). inside G c a b ≡ true) s t
  path_inside stay a b = stay
  path_inside {s} {t} (step {b = u} e w) a b = step (inside_intro s u e a middle) (path_inside w middle b)
    where
      middle : joined G c u ≡ true
      middle =
          joined_intro G c u (reaches_trans G c s u (joined_there G c s a) (reaches_edge G s u e))
          (reaches_trans G u t c (path_reaches G u t (edge_to G s u e) w) (joined_back G c t b))

  -- a move inside
  pub inside_move : (s : ℕ) → joined G c s ≡ true → nontrivial G s ≡ true → (t : ℕ) × (inside G c s t ≡ true)
  inside_move s a n =
      let v = nontrivial_move G s n in
      (v.0, inside_intro s v.0 v.1 a (joined_trans G c s v.0 a v.2))

  -- every state of the component has a way inside it to every other
  pub inside_leads : (p : ℕ → Bool) (s t : ℕ) → joined G c s ≡ true → nontrivial G s ≡ true → p t ≡ true → joined G c t ≡ true
      → Leads G.states (inside G c) p s
  inside_leads p s t a n h b =
      let v = inside_move s a n in
      let d = inside_to s v.0 v.1 in
      let r = reaches_path G v.0 t (reaches_trans G v.0 c t (joined_back G c v.0 d) (joined_there G c t b)) in
      let k = near_some G.states (inside G c) p inside_below (path_inside r d b) (joined_to G c t b) h in
      record { next = v.0; moves = k.0; move = v.1; way = k.1 }

module _ (G : Graph) (c : ℕ) (l : List (ℕ → Bool)) where
  has_goal_intro : (q : ℕ) → q < length l → meets_at G c (goal_at l q) ≡ true → has_goal G c l ≡ true
  unfolding has_goal
  has_goal_intro q b h = any_intro (length l) (λ k. meets_at G c (goal_at l k)) q b h

  has_goal_elim : has_goal G c l ≡ true → (q : ℕ) × (q < length l) × (meets_at G c (goal_at l q) ≡ true)
  unfolding has_goal
  has_goal_elim h = any_elim (length l) (λ k. meets_at G c (goal_at l k)) h

  ahead_at_most : (g k : ℕ) → meets_at G c (goal_at l (around (length l) g k)) ≡ true → ahead G c l g ≤ k
  unfolding ahead
  ahead_at_most g k h = least_at_most (length l) (λ j. meets_at G c (goal_at l (around (length l) g j))) k h

  ahead_meets : (g : ℕ) → ahead G c l g < length l → meets_at G c (goal_at l (goal G c l g)) ≡ true
  unfolding ahead goal
  ahead_meets g b = least_member (length l) (λ j. meets_at G c (goal_at l (around (length l) g j))) b

  goal_at_lem : (g : ℕ) → goal G c l g ≡ around (length l) g (ahead G c l g)
  unfolding goal
  goal_at_lem g = refl

  module _ (q g : ℕ) (b : q < length l) (h : meets_at G c (goal_at l q) ≡ true) (d : g < length l) where
    ahead_le : ahead G c l g ≤ distance (length l) g q
    ahead_le = ahead_at_most g (distance (length l) g q) (rw (around_distance (length l) g q d b) h)

    ahead_below : ahead G c l g < length l
    ahead_below = omega (arith, ahead_le, distance_below (length l) g q d b)

    pub goal_below : goal G c l g < length l
    goal_below = rw (goal_at_lem g) (around_below (length l) g (ahead G c l g) d (omega (arith, ahead_below)))

    pub goal_meets : meets_at G c (goal_at l (goal G c l g)) ≡ true
    goal_meets = ahead_meets g ahead_below

    -- how far the goal has come towards q
    goal_distance : distance (length l) (goal G c l g) q + ahead G c l g ≡ distance (length l) g q
    goal_distance = rw (goal_at_lem g) (distance_around (length l) g q (ahead G c l g) d b ahead_le)

  -- a counter that stands on a goal keeps it
  goal_stays : (a : ℕ) → a < length l → meets_at G c (goal_at l a) ≡ true → goal G c l a ≡ a
  goal_stays a b h =
      let z : ahead G c l a ≤ 0 = ahead_at_most a 0 (rw (around_none (length l) a b) h) in
      let e : ahead G c l a ≡ 0 = omega arith in
      goal_at_lem a ∙ ap (around (length l) a) e ∙ around_none (length l) a b

  target_joined : (a t : ℕ) → target G c l a t ≡ true → goal_at l a t ≡ true
  unfolding target
  target_joined a t h = and_left (goal_at l a t) (joined G c t) h

  target_intro : (a t : ℕ) → goal_at l a t ≡ true → joined G c t ≡ true → target G c l a t ≡ true
  unfolding target
  target_intro a t h e = and_intro h e

  aim_leads : (a s : ℕ) → joined G c s ≡ true → nontrivial G s ≡ true → meets_at G c (goal_at l a) ≡ true → Leads G.states (inside G c) (target G c l a) s
  aim_leads a s e n h =
      let v = meets_at_elim G c (goal_at l a) h in
      inside_leads G c (target G c l a) s v.0 e n (target_intro a v.0 v.1 v.2) v.2

  -- what falls until set q is entered: how far the counter is from q, then how far the state is from the goal
  unfoldable pub to_go : ℕ → ℕ → ℕ → ℕ
  to_go q s g = distance (length l) g q * G.states + suc (approach G.states (inside G c) (target G c l (goal G c l g)) s)

  -- What a move of the tour does, from state s and counter g: it stays inside, the counter stays in range, and towards each set that meets the
  -- component it either lands there or comes nearer.
  pub record Toured (s g : ℕ) : Type 0 where
    pub counter : ℕ
    pub state : ℕ
    pub is : tour G c l s g ≡ gives counter state
    pub moves : inside G c s state ≡ true
    pub range : counter < max 1 (length l)
    pub lands : (q : ℕ) → q < length l → meets_at G c (goal_at l q) ≡ true → (goal_at l q state ≡ true) ⊎ (to_go q state counter < to_go q s g)

  tour_goal : (s g : ℕ) → has_goal G c l ≡ true
      → tour G c l s g ≡ arrive l (goal G c l g) (toward G.states (inside G c) (target G c l (goal G c l g)) s)
  unfolding tour
  tour_goal s g h = rw (h, tour) refl

  tour_none : (s g : ℕ) → has_goal G c l ≡ false → tour G c l s g ≡ gives g (prefer G.states s (inside G c s))
  unfolding tour
  tour_none s g h = rw (h, tour) refl

  arrive_lands : (a t : ℕ) → goal_at l a t ≡ true → arrive l a t ≡ gives (around (length l) a 1) t
  unfolding arrive
  arrive_lands a t h = rw (h, arrive) refl

  arrive_passes : (a t : ℕ) → goal_at l a t ≡ false → arrive l a t ≡ gives a t
  unfolding arrive
  arrive_passes a t h = rw (h, arrive) refl

  -- the two ways in which the number falls: the counter comes nearer to q, or it does not go away and the state comes nearer to the goal
  nearer_counter : (q s g s' g' : ℕ) → distance (length l) g' q < distance (length l) g q
      → approach G.states (inside G c) (target G c l (goal G c l g')) s' < G.states → to_go q s' g' < to_go q s g
  unfolding to_go
  nearer_counter q s g s' g' d h =
      omega (arith, suc-mul (distance (length l) g' q) G.states, mul-le-mul_right G.states d)

  nearer_state : (q s g s' g' : ℕ) → distance (length l) g' q ≤ distance (length l) g q
      → approach G.states (inside G c) (target G c l (goal G c l g')) s' < approach G.states (inside G c) (target G c l (goal G c l g)) s → to_go q s'
      g' < to_go q s g
  unfolding to_go
  nearer_state q s g s' g' d h = omega (arith, mul-le-mul_right G.states d)

  module _ (s g : ℕ) (a : joined G c s ≡ true) (n : nontrivial G s ≡ true) (r : g < max 1 (length l)) where
    -- with no set to enter
    toured_none : has_goal G c l ≡ false → Toured s g
    toured_none h =
        let v = inside_move G c s a n in
        record {
          counter = g;
          state = prefer G.states s (inside G c s);
          is = tour_none s g h;
          moves = prefer_member G.states s (inside G c s) v.0 (joined_to G c v.0 (inside_to G c s v.0 v.1)) v.1;
          range = r;
          lands = λ q b m. clash (has_goal_intro q b m) h;
        }

    module _ (q₀ : ℕ) (b₀ : q₀ < length l) (m₀ : meets_at G c (goal_at l q₀) ≡ true) where
      below : g < length l
      below = subst (λ (k : ℕ). g < k) (max-eq_right (omega arith)) r

      aim : ℕ
      aim = goal G c l g

      next : ℕ
      next = toward G.states (inside G c) (target G c l aim) s

      aim_below : aim < length l
      unfolding aim
      aim_below = goal_below q₀ g b₀ m₀ below

      aim_meets : meets_at G c (goal_at l aim) ≡ true
      unfolding aim
      aim_meets = goal_meets q₀ g b₀ m₀ below

      leads : Leads G.states (inside G c) (target G c l aim) s
      leads = aim_leads aim s a n aim_meets

      next_inside : inside G c s next ≡ true
      unfolding next
      next_inside = toward_move G.states (inside G c) (target G c l aim) s leads

      next_joined : joined G c next ≡ true
      next_joined = inside_to G c s next next_inside

      next_nontrivial : nontrivial G next ≡ true
      next_nontrivial = sym (nontrivial_same G s next (joined_trans G s c next (joined_sym G c s a) next_joined)) ∙ n

      is_tour : has_goal G c l ≡ true → tour G c l s g ≡ arrive l aim next
      unfolding aim next
      is_tour h = tour_goal s g h

      -- how near the next goal is, whatever counter the move leaves
      next_approach : (q g' : ℕ) → q < length l → meets_at G c (goal_at l q) ≡ true → g' < length l
          → approach G.states (inside G c) (target G c l (goal G c l g')) next < G.states
      next_approach q g' b m d =
          approach_below G.states (inside G c) (target G c l (goal G c l g')) next
          (aim_leads (goal G c l g') next next_joined next_nontrivial (goal_meets q g' b m d))

      moved : (q : ℕ) → q < length l → meets_at G c (goal_at l q) ≡ true → distance (length l) aim q + ahead G c l g ≡ distance (length l) g q
      unfolding aim
      moved q b m = goal_distance q g b m below

      after_below : around (length l) aim 1 < length l
      after_below = around_below (length l) aim 1 aim_below (omega arith)

      lands_goal : goal_at l aim next ≡ true → (q : ℕ) → q < length l → meets_at G c (goal_at l q) ≡ true
          → (goal_at l q next ≡ true) ⊎ (to_go q next (around (length l) aim 1) < to_go q s g)
      lands_goal h q b m = go (dec_lt 0 (distance (length l) aim q))
        where
          go : Dec (0 < distance (length l) aim q) → (goal_at l q next ≡ true) ⊎ (to_go q next (around (length l) aim 1) < to_go q s g)
          go (yes d) =
              inr
              (nearer_counter q s g next (around (length l) aim 1)
              (omega (arith, moved q b m, distance_around (length l) aim q 1 aim_below b d))
              (next_approach q (around (length l) aim 1) b m after_below))
          go (no d) = inl (subst (λ (k : ℕ). goal_at l k next ≡ true) (distance_zero (length l) aim q aim_below b (omega arith)) h)

      passes_goal : goal_at l aim next ≡ false → (q : ℕ) → q < length l → meets_at G c (goal_at l q) ≡ true → to_go q next aim < to_go q s g
      unfolding aim next
      passes_goal h q b m = go (toward_falls G.states (inside G c) (target G c l aim) s leads)
        where
          go : (target G c l aim next ≡ true) ⊎ (Leads G.states (inside G c) (target G c l aim) next ×
              (approach G.states (inside G c) (target G c l aim) next < approach G.states (inside G c) (target G c l aim) s))
              → to_go q next aim < to_go q s g
          go (inl t) = clash (target_joined aim next t) h
          go (inr t) =
              nearer_state q s g next aim (omega (arith, moved q b m))
              (subst⁻¹ (λ (k : ℕ). approach G.states (inside G c) (target G c l k) next < approach G.states (inside G c) (target G c l (goal G c l g)) s)
              (goal_stays aim aim_below aim_meets) t.1)

      toured_goal : has_goal G c l ≡ true → Toured s g
      toured_goal h =
          elim (decide (goal_at l aim next)) [
            | inl t ↦ record {
              counter = around (length l) aim 1;
              state = next;
              is = is_tour h ∙ arrive_lands aim next t;
              moves = next_inside;
              range = omega (arith, after_below, le-max_right 1 (length l));
              lands = lands_goal t;
            }
            | inr t ↦ record {
              counter = aim;
              state = next;
              is = is_tour h ∙ arrive_passes aim next t;
              moves = next_inside;
              range = omega (arith, aim_below, le-max_right 1 (length l));
              lands = λ q b m. inr (passes_goal t q b m);
            }
          ]

    pub toured : Toured s g
    toured =
        elim (decide (has_goal G c l)) [
          | inl h ↦ let v = has_goal_elim h in toured_goal v.0 v.1 v.2 h
          | inr h ↦ toured_none h
        ]

  -- at most sets × states
  pub to_go_most : (q s g : ℕ) → q < length l → meets_at G c (goal_at l q) ≡ true → g < length l → joined G c s ≡ true → nontrivial G s ≡ true
      → to_go q s g ≤ length l * G.states
  unfolding to_go
  to_go_most q s g b m d a n =
      omega (
        arith,
        mul-le-mul_right G.states (distance_below (length l) g q d b),
        suc-mul (distance (length l) g q) G.states,
        approach_below G.states (inside G c) (target G c l (goal G c l g)) s (aim_leads (goal G c l g) s a n (goal_meets q g b m d)),
      )
