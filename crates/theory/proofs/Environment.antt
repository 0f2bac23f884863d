-- The environment's table wins from every position that is not won.
--
--   Presses S P    == the table does what the rows say
--   Lost S c       == what every reachable configuration keeps: it is not won, and its counter is in range
--   cycle_breaks   : every round of such a table breaks a requirement
use Prim.Native.Nat.{ℕ, ◌<◌}
use mathlib.Core.Path.{◌≡◌, sym, ◌∙◌, ap, subst, subst⁻¹}
use mathlib.Core.Bool.{Bool, true, false, ◌||◌, not}
use mathlib.Core.Logic.{◌⊎◌, inl, inr}
use lib.ListN.{length}
use Rattle.finite.specs.Bounded.{least}
use Rattle.finite.specs.Lists.{any_of}
use Rattle.finite.proofs.Truth.{clash, false_of, or_false_left, or_false_right, not_false}
use Rattle.finite.proofs.Lists.{all_of_elim, all_of_false, any_of_intro}
use Rattle.graphs.specs.Walk.{Walk}
use Rattle.graphs.specs.Graph.{Graph, edge}
use Rattle.graphs.specs.Component.{joined, number, meets_at}
use Rattle.graphs.specs.Way.{approach, toward}
use Rattle.graphs.proofs.Graph.{edge_to, stuck_not}
use Rattle.graphs.proofs.Closure.{reaches_self}
use Rattle.graphs.proofs.Component.{
  joined_back,
  joined_sym,
  joined_trans,
  joined_same,
  number_joined,
  number_same,
  leaves_elim,
  leaves_apart,
  meets_at_intro,
  meets_at_same,
}
use Rattle.graphs.proofs.Measure.{first_step}
use Rattle.graphs.proofs.Way.{Leads, toward_falls}
use Rattle.arena.specs.Arena.{Separated, arena_of}
use Rattle.arena.specs.Table.{gives, Some, EnvironmentTable}
use Rattle.arena.specs.Play.{Configuration, EnvironmentTurn, Cycle, configurations, visits_input, visits_output, breaks}
use Rattle.theory.specs.Region.{due, served, accepting, safe, region}
use Rattle.theory.specs.Tour.{goal_at, inside, tour}
use Rattle.theory.specs.Choice.{assumptions, lost, way_out, gate, escapes, pressing, environment_row}
use Rattle.theory.specs.Entries.{environment_counters}
use Rattle.theory.proofs.Region.{safe_intro, home_for_intro, settles_intro, region_settles}
use Rattle.theory.proofs.Delay.{output_delay}
use Rattle.theory.proofs.Tour.{Toured, toured, to_go}
use Rattle.theory.proofs.Sets.{assumption_at_lem, breaks_when}
use Rattle.theory.proofs.Loop.{Along, along_first, along_turn, nontrivial_input, nontrivial_output, nontrivial_along, cycle_lands, cycle_finds, nowhere}
use Rattle.theory.proofs.ControllerRow.{same_counter, same_state}
use Rattle.theory.proofs.EnvironmentRow.{
  lost_apart,
  no_way_out,
  gate_out,
  gate_same,
  gate_leads,
  way_out_same,
  way_out_lost,
  escapes_false,
  escapes_same,
  row_lost,
  pushing_nontrivial,
  pressing_escapes,
  pressing_tours,
  outward_here,
  outward_on,
  Pushed,
  pushed,
}

-- A table that does what the rows say at every position that is not won.
pub record Presses (S : Separated) (P : EnvironmentTable) : Type 0 where
  pub counters : P.memories ≡ environment_counters S
  pub rows : (h i o : ℕ) → h < environment_counters S → i < S.input.states → o < S.output.states → region S i o ≡ false
      → P.step h i o ≡ environment_row S i h o

-- What every reachable configuration keeps.
pub record Lost (S : Separated) (c : Configuration) : Type 0 where
  pub input : c.input < S.input.states
  pub output : c.output < S.output.states
  pub lost : region S c.input c.output ≡ false
  pub range : c.memory < environment_counters S

module _ (S : Separated) (P : EnvironmentTable) (F : Presses S P) where
  abbrev pub Turn : Configuration → Configuration → Type 0
  Turn = EnvironmentTurn (arena_of S) P

  turn_in : (x y : Configuration) → Turn x y → edge S.input x.input y.input ≡ true
  unfolding arena_of
  turn_in x y t = t.step.state

  turn_out : (x y : Configuration) → Turn x y → edge S.output x.output y.output ≡ true
  unfolding arena_of
  turn_out x y t = t.reply

  -- the table's step at such a configuration is the row
  step_row : (x : Configuration) → Lost S x → P.step x.memory x.input x.output ≡ environment_row S x.input x.memory x.output
  step_row x k = F.rows x.memory x.input x.output k.range k.input k.output k.lost

  turn_row : (x y : Configuration) → Lost S x → Turn x y → environment_row S x.input x.memory x.output ≡ gives y.memory y.input
  turn_row x y k t = sym (step_row x k) ∙ t.step.is

  turn_pushed : (x : Configuration) → Lost S x → Pushed S x.input x.memory x.output
  turn_pushed x k = pushed S x.input x.memory x.output k.input k.output k.lost k.range

  pub turn_lost : (x y : Configuration) → Lost S x → Turn x y → Lost S y
  turn_lost x y k t =
      let v = turn_pushed x k in
      let e = sym v.is ∙ turn_row x y k t in
      record {
        input = edge_to S.input x.input y.input (turn_in x y t);
        output = edge_to S.output x.output y.output (turn_out x y t);
        lost = subst (λ (j : ℕ). region S j y.output ≡ false) (same_state e) (v.keeps y.output (turn_out x y t));
        range = subst (λ (g : ℕ). g < environment_counters S) (same_counter e) v.range;
      }

  pub step_some : (x : Configuration) → Lost S x → Some P.memories (edge S.input x.input) (P.step x.memory x.input x.output)
  step_some x k =
      let v = turn_pushed x k in
      record {
        memory = v.counter;
        state = v.state;
        names = record { is = step_row x k ∙ v.is; memory = subst⁻¹ (λ (m : ℕ). v.counter < m) F.counters v.range; state = v.move };
      }

  module _ (First : Configuration → Type 0) (r : Cycle First Turn) (kept : Lost S r.at) where
    -- what every configuration of the round keeps
    record Round (c : Configuration) : Type 0 where
      keeps : Lost S c
      along : Along S r.at c

    round_first : Round r.at
    round_first = record { keeps = kept; along = along_first S First Turn turn_in turn_out r }

    round_turn : (x y : Configuration) → Round x → Turn x y → Walk Turn y r.last → Round y
    round_turn x y a t w = record {
      keeps = turn_lost x y a.keeps t;
      along = along_turn S First Turn turn_in turn_out r x y a.along t w;
    }

    abbrev I : Graph
    I = S.input

    abbrev O : Graph
    O = S.output

    abbrev i : ℕ
    i = r.at.input

    abbrev o : ℕ
    o = r.at.output

    -- the component of the inputs
    c : ℕ
    c = number I i

    number_along : (x : Configuration) → Round x → number I x.input ≡ c
    unfolding c
    number_along x a = sym (number_same I i x.input a.along.inputs)

    joined_along : (x : Configuration) → Round x → joined I c x.input ≡ true
    unfolding c
    joined_along x a =
        joined_trans I (number I i) i x.input (joined_sym I i (number I i) (number_joined I i kept.input)) a.along.inputs

    turn_pressing : (x y : Configuration) → Round x → Turn x y → pressing S x.input x.memory x.output ≡ gives y.memory y.input
    turn_pressing x y a t =
        sym (pushing_nontrivial S x.input x.memory x.output (nontrivial_along S First Turn turn_in turn_out r x a.along))
        ∙ sym (row_lost S x.input x.memory x.output a.keeps.lost (stuck_not O x.output y.output (turn_out x y t)))
        ∙ turn_row x y a.keeps t

    -- a state with a way out is left by it, and then the round does not come back
    no_way : (x y : Configuration) → Round x → Turn x y → Round y → escapes S x.input x.output ≡ true → way_out S x.output x.input ≡ false
    no_way x y a t b e =
        false_of (way_out S x.output x.input)
        (λ w.
        let is = same_state (sym (outward_here S x.input x.memory x.output w) ∙ sym (pressing_escapes S x.input x.memory x.output e) ∙
        turn_pressing x y a t) in
        clash (joined_trans I x.input i y.input (joined_sym I i x.input a.along.inputs) b.along.inputs)
        (subst (λ (j : ℕ). joined I x.input j ≡ false) is
        (lost_apart S x.output x.input (least I.states (lost S x.output x.input)) (way_out_lost S x.output x.input w))))

    escapes_along : (x : Configuration) → Round x → escapes S x.input x.output ≡ escapes S i o
    escapes_along x a =
        sym (escapes_same S i x.input o x.output a.along.inputs a.along.outputs)

    module _ (e : escapes S i o ≡ true) where
      escapes_at : (x : Configuration) → Round x → escapes S x.input x.output ≡ true
      escapes_at x a = escapes_along x a ∙ e

      -- no configuration of the round has a way out: its own turn would take it
      closed_in : (y : Configuration) → Round y → Walk Turn y r.last → way_out S o y.input ≡ false
      closed_in y b w = go (first_step w)
        where
          from_turn : (x z : Configuration) → Round x → Turn x z → Walk Turn z r.last → way_out S o x.input ≡ false
          from_turn x z a t v =
              way_out_same S o x.output x.input a.along.outputs ∙ no_way x z a t (round_turn x z a t v) (escapes_at x a)

          go : (y ≡ r.last) ⊎ ((z : Configuration) × Turn y z × Walk Turn z r.last) → way_out S o y.input ≡ false
          go (inl q) =
              subst⁻¹ (λ (x : Configuration). way_out S o x.input ≡ false) (q ∙ r.back) (from_turn r.at r.next round_first r.turn r.rest)
          go (inr v) = from_turn y v.0 b v.1 v.2

      way : ℕ → ℕ
      way s = approach I.states (inside I c) (gate S o c) s

      nearer : (x y : Configuration) → Round x → Turn x y → Round y → way_out S o y.input ≡ false → way y.input < way x.input
      unfolding way
      nearer x y a t b n = go (toward_falls I.states (inside I c) (gate S o c) x.input leads)
        where
          -- the row's own component and ways out are the round's
          same_toward : toward I.states (inside I (number I x.input)) (gate S x.output (number I x.input)) x.input
              ≡ toward I.states (inside I c) (gate S o c) x.input
          same_toward =
              ap (λ (k : ℕ). toward I.states (inside I k) (gate S x.output k) x.input) (number_along x a)
              ∙ ap (λ (p : ℕ → Bool). toward I.states (inside I c) p x.input) (sym (gate_same S o x.output c a.along.outputs))

          leads : Leads I.states (inside I c) (gate S o c) x.input
          leads =
              subst (λ (p : ℕ → Bool). Leads I.states (inside I c) p x.input) (sym (gate_same S o x.output c a.along.outputs))
              (subst (λ (k : ℕ). Leads I.states (inside I k) (gate S x.output k) x.input) (number_along x a)
              (gate_leads S x.input x.output a.keeps.input (nontrivial_along S First Turn turn_in turn_out r x a.along) (escapes_at x a)))

          is : toward I.states (inside I c) (gate S o c) x.input ≡ y.input
          is =
              sym same_toward
              ∙ same_state (sym (outward_on S x.input x.memory x.output (no_way x y a t b (escapes_at x a)))
              ∙ sym (pressing_escapes S x.input x.memory x.output (escapes_at x a)) ∙ turn_pressing x y a t)

          go : (gate S o c (toward I.states (inside I c) (gate S o c) x.input) ≡ true)
              ⊎ (Leads I.states (inside I c) (gate S o c) (toward I.states (inside I c) (gate S o c) x.input) ×
              (approach I.states (inside I c) (gate S o c) (toward I.states (inside I c) (gate S o c) x.input) < approach I.states (inside I c)
              (gate S o c) x.input))
              → approach I.states (inside I c) (gate S o c) y.input < approach I.states (inside I c) (gate S o c) x.input
          go (inl h) = clash (gate_out S o c y.input (rw is at h)) n
          go (inr h) = subst (λ (j : ℕ). approach I.states (inside I c) (gate S o c) j < approach I.states (inside I c) (gate S o c) x.input) is h.1

      never_escapes : ⊥
      never_escapes =
          nowhere (configurations First Turn r)
          (cycle_lands S First Turn turn_in turn_out r Round (λ x. false) (λ x. way x.input)
          (λ x y a t w. let b = round_turn x y a t w in (b, inr (nearer x y a t b (closed_in y b w)))) round_first)

    -- So the round is a tour of the component.
    stays_in : escapes S i o ≡ false
    stays_in = false_of (escapes S i o) never_escapes

    tour_turn : (k : ℕ) → k < length (assumptions S) → meets_at I c (goal_at (assumptions S) k) ≡ true → (x y : Configuration) → Round x → Turn x y
        → (goal_at (assumptions S) k y.input ≡ true) ⊎ (to_go I c (assumptions S) k y.input y.memory < to_go I c (assumptions S) k x.input x.memory)
    unfolding environment_counters
    tour_turn k l m x y a t =
        subst (λ (p : ℕ). (goal_at (assumptions S) k p ≡ true) ⊎ (to_go I c (assumptions S) k p y.memory < to_go I c (assumptions S) k x.input x.memory))
        (same_state is)
        (subst (λ (g : ℕ). (goal_at (assumptions S) k v.state ≡ true) ⊎
        (to_go I c (assumptions S) k v.state g < to_go I c (assumptions S) k x.input x.memory))
        (same_counter is) (v.lands k l m))
      where
        v : Toured I c (assumptions S) x.input x.memory
        v =
            toured I c (assumptions S) x.input x.memory (joined_along x a) (nontrivial_along S First Turn turn_in turn_out r x a.along)
            a.keeps.range

        is : gives v.counter v.state ≡ gives y.memory y.input
        is =
            sym v.is
            ∙ sym (ap (λ (n : ℕ). tour I n (assumptions S) x.input x.memory) (number_along x a))
            ∙ sym (pressing_tours S x.input x.memory x.output (escapes_along x a ∙ stays_in)) ∙ turn_pressing x y a t

    visits_goal : (k : ℕ) → k < length (assumptions S) → meets_at I c (goal_at (assumptions S) k) ≡ true
        → visits_input (goal_at (assumptions S) k) (configurations First Turn r) ≡ true
    unfolding visits_input
    visits_goal k l m =
        cycle_lands S First Turn turn_in turn_out r Round (λ x. goal_at (assumptions S) k x.input) (λ x. to_go I c (assumptions S) k x.input x.memory)
        (λ x y a t w. (round_turn x y a t w, tour_turn k l m x y a t)) round_first

    -- a set of outputs that misses the component is not visited
    unvisited : (s : ℕ → Bool) → meets_at O o s ≡ false → visits_output s (configurations First Turn r) ≡ false
    unfolding visits_output
    unvisited s h =
        false_of (any_of (λ x. s x.output) (configurations First Turn r))
        (λ e.
        let v = cycle_finds S First Turn turn_in turn_out r Round round_turn round_first (λ x. s x.output) e in
        clash (meets_at_intro O o s v.0.output v.2 v.1.along.outputs) h)

    -- every exit is won with the outputs of the round
    exits_safe : safe S (region S) i o ≡ true
    unfolding c
    exits_safe =
        safe_intro S (region S) i o
        (λ j e l b.
        let v = leaves_elim I i j l in
        let apart : joined I v.0 j ≡ false = sym (joined_same I i v.0 j v.1) ∙ leaves_apart I i j l in
        let inner : joined I (number I i) v.0 ≡ true =
        joined_trans I (number I i) i v.0 (joined_sym I i (number I i) (number_joined I i kept.input)) v.1 in
        output_delay S j e o (joined_back O o e b)
        (no_way_out S o v.0 j (escapes_false S i o v.0 stays_in inner) v.2 apart))

    -- were the outputs' component accepting, it would be a home, and the position won
    not_accepting : accepting S i o ≡ false
    not_accepting =
        false_of (accepting S i o)
        (λ a.
        clash
        (region_settles S i o kept.input kept.output (nontrivial_input S First Turn turn_in turn_out r)
        ∙ settles_intro S (region S) i o o (reaches_self O o kept.output)
        (home_for_intro S (region S) i o (nontrivial_output S First Turn turn_in turn_out r) a exits_safe))
        kept.lost)

    -- Every reachable round breaks some requirement: one that is due, and misses an output set.
    pub cycle_breaks : any_of (λ q. breaks q (configurations First Turn r)) S.requirements ≡ true
    unfolding accepting due served c
    cycle_breaks =
        let q = all_of_false (λ x. not (due S i x) || served S o x) S.requirements not_accepting in
        let d = not_false (due S i q.0) (or_false_left (not (due S i q.0)) (served S o q.0) q.2) in
        let s = all_of_false (meets_at O o) q.0.guarantees (or_false_right (not (due S i q.0)) (served S o q.0) q.2) in
        any_of_intro (λ x. breaks x (configurations First Turn r)) q.1
        (breaks_when q.0 (configurations First Turn r)
        (λ u m.
        let k = assumption_at_lem S q.0 u q.1 m in
        let h : meets_at I (number I i) u ≡ true =
        sym (meets_at_same I i (number I i) u (number_joined I i kept.input)) ∙ all_of_elim (meets_at I i) q.0.assumptions d u m in
        subst (λ (w : ℕ → Bool). visits_input w (configurations First Turn r) ≡ true) k.2
        (visits_goal k.0 k.1 (subst⁻¹ (λ (w : ℕ → Bool). meets_at I (number I i) w ≡ true) k.2 h)))
        s.0 s.1 (unvisited s.0 s.2))
