-- The controller's table wins from every won position.
--
--   Follows S T    == the table does what the rows say
--   Kept S c       == what every reachable configuration keeps: it is won, and its counter is in range
--   cycle_meets    : every round of such a table meets all requirements
use Prim.Native.Nat.{ℕ, ◌<◌}
use mathlib.Core.Path.{◌≡◌, sym, ◌∙◌, ap, subst, subst⁻¹}
use mathlib.Core.Bool.{Bool, true, false, ◌||◌, not}
use mathlib.Core.List.{Memᴰ}
use mathlib.Core.Logic.{◌⊎◌, inl, inr}
use lib.ListN.{length}
use Rattle.finite.specs.Lists.{all_of}
use Rattle.finite.proofs.Truth.{clash, true_of, false_of, implies_elim}
use Rattle.finite.proofs.Lists.{all_of_intro, all_of_elim}
use Rattle.graphs.specs.Walk.{Walk}
use Rattle.graphs.specs.Graph.{Graph, edge}
use Rattle.graphs.specs.Closure.{reaches}
use Rattle.graphs.specs.Component.{joined, nontrivial, meets_at}
use Rattle.graphs.specs.Way.{approach, toward}
use Rattle.graphs.proofs.Graph.{edge_to}
use Rattle.graphs.proofs.Closure.{reaches_trans}
use Rattle.graphs.proofs.Component.{joined_back, joined_sym, joined_trans, nontrivial_same, meets_at_intro}
use Rattle.graphs.proofs.Way.{Leads, toward_falls}
use Rattle.arena.specs.Arena.{Requirement, Separated, arena_of}
use Rattle.arena.specs.Table.{gives, Some, ControllerTable}
use Rattle.arena.specs.Play.{Configuration, ControllerTurn, Cycle, configurations, visits_input, visits_output, meets}
use Rattle.theory.specs.Region.{due, served, accepting, home_for, settles, answers, region}
use Rattle.theory.specs.Tour.{goal_at}
use Rattle.theory.specs.Choice.{guarantees, home, homeward, controller_row}
use Rattle.theory.specs.Entries.{controller_counters}
use Rattle.theory.proofs.Region.{
  home_for_nontrivial,
  home_for_accepting,
  region_in,
  region_out,
  region_settles,
}
use Rattle.theory.proofs.Delay.{reply}
use Rattle.theory.proofs.Tour.{Toured, toured, to_go}
use Rattle.arena.proofs.Meets.{meets_intro}
use Rattle.theory.proofs.Sets.{guarantee_at_lem}
use Rattle.theory.proofs.Loop.{Along, along_first, along_turn, nontrivial_input, nontrivial_along, cycle_lands, cycle_finds, nowhere}
use Rattle.theory.proofs.ControllerRow.{
  same_counter,
  same_state,
  home_leads,
  home_reached,
  home_home_for,
  home_same,
  row_answers,
  settled_nontrivial,
  homeward_at,
  homeward_away,
  Replied,
  replied,
}

-- A table that does what the rows say wherever some reply is won.
pub record Follows (S : Separated) (T : ControllerTable) : Type 0 where
  pub counters : T.memories ≡ controller_counters S
  pub rows : (g o j : ℕ) → g < controller_counters S → o < S.output.states → j < S.input.states → answers S (region S) j o ≡ true
      → T.step g o j ≡ controller_row S o g j

-- What every reachable configuration keeps.
pub record Kept (S : Separated) (c : Configuration) : Type 0 where
  pub won : region S c.input c.output ≡ true
  pub range : c.memory < controller_counters S

module _ (S : Separated) (T : ControllerTable) (F : Follows S T) where
  abbrev pub Turn : Configuration → Configuration → Type 0
  Turn = ControllerTurn (arena_of S) T

  turn_in : (x y : Configuration) → Turn x y → edge S.input x.input y.input ≡ true
  unfolding arena_of
  turn_in x y t = t.move

  turn_out : (x y : Configuration) → Turn x y → edge S.output x.output y.output ≡ true
  unfolding arena_of
  turn_out x y t = t.step.state

  turn_answers : (x : Configuration) (j : ℕ) → Kept S x → edge S.input x.input j ≡ true → answers S (region S) j x.output ≡ true
  turn_answers x j k e = reply S x.input x.output j k.won e

  -- the table's step at a kept configuration is the row
  step_row : (x : Configuration) (j : ℕ) → Kept S x → edge S.input x.input j ≡ true
      → T.step x.memory x.output j ≡ controller_row S x.output x.memory j
  step_row x j k e =
      F.rows x.memory x.output j k.range (region_out S x.input x.output k.won) (edge_to S.input x.input j e)
      (turn_answers x j k e)

  turn_row : (x y : Configuration) → Kept S x → Turn x y → controller_row S x.output x.memory y.input ≡ gives y.memory y.output
  turn_row x y k t = sym (step_row x y.input k (turn_in x y t)) ∙ t.step.is

  turn_replied : (x : Configuration) (j : ℕ) → Kept S x → edge S.input x.input j ≡ true → Replied S x.output x.memory j
  turn_replied x j k e = replied S x.output x.memory j (turn_answers x j k e) k.range

  pub turn_kept : (x y : Configuration) → Kept S x → Turn x y → Kept S y
  turn_kept x y k t =
      let v = turn_replied x y.input k (turn_in x y t) in
      let e = sym v.is ∙ turn_row x y k t in
      record {
        won = subst (λ (p : ℕ). region S y.input p ≡ true) (same_state e) v.won;
        range = subst (λ (g : ℕ). g < controller_counters S) (same_counter e) v.range;
      }

  pub step_some : (x : Configuration) (j : ℕ) → Kept S x → edge S.input x.input j ≡ true
      → Some T.memories (edge S.output x.output) (T.step x.memory x.output j)
  step_some x j k e =
      let v = turn_replied x j k e in
      record {
        memory = v.counter;
        state = v.state;
        names = record { is = step_row x j k e ∙ v.is; memory = subst⁻¹ (λ (k : ℕ). v.counter < k) F.counters v.range; state = v.move };
      }

  module _ (First : Configuration → Type 0) (r : Cycle First Turn) (kept : Kept S r.at) where
    -- what every configuration of the round keeps
    record Round (c : Configuration) : Type 0 where
      keeps : Kept S c
      along : Along S r.at c

    round_first : Round r.at
    round_first = record { keeps = kept; along = along_first S First Turn turn_in turn_out r }

    round_turn : (x y : Configuration) → Round x → Turn x y → Walk Turn y r.last → Round y
    round_turn x y i t w = record {
      keeps = turn_kept x y i.keeps t;
      along = along_turn S First Turn turn_in turn_out r x y i.along t w;
    }

    abbrev I : Graph
    I = S.input

    abbrev O : Graph
    O = S.output

    abbrev i : ℕ
    i = r.at.input

    abbrev o : ℕ
    o = r.at.output

    -- one home for the whole round
    d : ℕ
    d = home S i o

    i_nontrivial : nontrivial I i ≡ true
    i_nontrivial = nontrivial_input S First Turn turn_in turn_out r

    o_settles : settles S (region S) i o ≡ true
    o_settles = sym (region_settles S i o (region_in S i o kept.won) (region_out S i o kept.won) i_nontrivial) ∙ kept.won

    d_home : home_for S (region S) i d ≡ true
    unfolding d
    d_home = home_home_for S i o o_settles

    o_reaches : reaches O o d ≡ true
    unfolding d
    o_reaches = home_reached S i o o_settles

    turn_homeward : (x y : Configuration) → Round x → Turn x y → Round y → homeward S d x.output x.memory ≡ gives y.memory y.output
    unfolding d
    turn_homeward x y a t b =
        ap (λ (k : ℕ). homeward S k x.output x.memory)
        (home_same S i y.input o x.output b.along.inputs a.along.outputs)
        ∙ sym (settled_nontrivial S x.output x.memory y.input (nontrivial_along S First Turn turn_in turn_out r y b.along))
        ∙ sym (row_answers S x.output x.memory y.input (turn_answers x y.input a.keeps (turn_in x y t)))
        ∙ turn_row x y a.keeps t

    -- away from home each turn shortens the way there, so the round is at home
    away_turn : joined O d o ≡ false → (x y : Configuration) → Round x → Turn x y → Round y
        → approach O.states (edge O) (joined O d) y.output < approach O.states (edge O) (joined O d) x.output
    away_turn n x y a t b = go (toward_falls O.states (edge O) (joined O d) x.output leads)
      where
        x_away : joined O d x.output ≡ false
        x_away = false_of (joined O d x.output) (λ h. clash (joined_trans O d x.output o h (joined_sym O o x.output a.along.outputs)) n)

        leads : Leads O.states (edge O) (joined O d) x.output
        leads =
            home_leads O d x.output (reaches_trans O x.output o d (joined_back O o x.output a.along.outputs) o_reaches)
            (home_for_nontrivial S (region S) i d d_home)

        is : toward O.states (edge O) (joined O d) x.output ≡ y.output
        is = same_state (sym (homeward_away S d x.output x.memory x_away) ∙ turn_homeward x y a t b)

        go : (joined O d (toward O.states (edge O) (joined O d) x.output) ≡ true)
            ⊎ (Leads O.states (edge O) (joined O d) (toward O.states (edge O) (joined O d) x.output) ×
            (approach O.states (edge O) (joined O d) (toward O.states (edge O) (joined O d) x.output) < approach O.states (edge O) (joined O d)
            x.output))
            → approach O.states (edge O) (joined O d) y.output < approach O.states (edge O) (joined O d) x.output
        go (inl h) = clash (joined_trans O d y.output o (rw is at h) (joined_sym O o y.output b.along.outputs)) n
        go (inr h) = subst (λ (p : ℕ). approach O.states (edge O) (joined O d) p < approach O.states (edge O) (joined O d) x.output) is h.1

    at_home_lem : joined O d o ≡ true
    at_home_lem =
        true_of (joined O d o)
        (λ n. nowhere (configurations First Turn r)
        (cycle_lands S First Turn turn_in turn_out r Round (λ c. false) (λ c. approach O.states (edge O) (joined O d) c.output)
        (λ x y a t w. let b = round_turn x y a t w in (b, inr (away_turn n x y a t b))) round_first))

    -- at home the round is a tour
    tour_turn : (k : ℕ) → k < length (guarantees S) → meets_at O d (goal_at (guarantees S) k) ≡ true → (x y : Configuration) → Round x → Turn x y → Round y
        → (goal_at (guarantees S) k y.output ≡ true) ⊎ (to_go O d (guarantees S) k y.output y.memory < to_go O d (guarantees S) k x.output x.memory)
    unfolding controller_counters
    tour_turn k l m x y a t b =
        subst (λ (p : ℕ). (goal_at (guarantees S) k p ≡ true) ⊎ (to_go O d (guarantees S) k p y.memory < to_go O d (guarantees S) k x.output x.memory))
        (same_state is)
        (subst (λ (g : ℕ). (goal_at (guarantees S) k v.state ≡ true) ⊎
        (to_go O d (guarantees S) k v.state g < to_go O d (guarantees S) k x.output x.memory))
        (same_counter is) (v.lands k l m))
      where
        x_home : joined O d x.output ≡ true
        x_home = joined_trans O d o x.output at_home_lem a.along.outputs

        v : Toured O d (guarantees S) x.output x.memory
        v = toured O d (guarantees S) x.output x.memory x_home
            (sym (nontrivial_same O d x.output x_home) ∙ home_for_nontrivial S (region S) i d d_home) a.keeps.range

        is : gives v.counter v.state ≡ gives y.memory y.output
        is = sym v.is ∙ sym (homeward_at S d x.output x.memory x_home) ∙ turn_homeward x y a t b

    visits_goal : (k : ℕ) → k < length (guarantees S) → meets_at O d (goal_at (guarantees S) k) ≡ true
        → visits_output (goal_at (guarantees S) k) (configurations First Turn r) ≡ true
    unfolding visits_output
    visits_goal k l m =
        cycle_lands S First Turn turn_in turn_out r Round (λ c. goal_at (guarantees S) k c.output) (λ c. to_go O d (guarantees S) k c.output c.memory)
        (λ x y a t w. let b = round_turn x y a t w in (b, tour_turn k l m x y a t b)) round_first

    -- a set of inputs that the round visits meets the component
    visited_meets : (s : ℕ → Bool) → visits_input s (configurations First Turn r) ≡ true → meets_at I i s ≡ true
    unfolding visits_input
    visited_meets s h =
        let v = cycle_finds S First Turn turn_in turn_out r Round round_turn round_first (λ c. s c.input) h in
        meets_at_intro I i s v.0.input v.2 v.1.along.inputs

    served_when_due : (q : Requirement) → Memᴰ q S.requirements → due S i q ≡ true → served S d q ≡ true
    unfolding accepting
    served_when_due q m e =
        implies_elim (due S i q) (served S d q)
        (all_of_elim (λ x. not (due S i x) || served S d x) S.requirements (home_for_accepting S (region S) i d d_home) q m) e

    meets_one : (q : Requirement) → Memᴰ q S.requirements → meets q (configurations First Turn r) ≡ true
    unfolding due served
    meets_one q m =
        meets_intro q (configurations First Turn r)
        (λ visited.
        let e : due S i q ≡ true =
        all_of_intro (meets_at I i) q.assumptions
        (λ u k. visited_meets u (all_of_elim (λ t. visits_input t (configurations First Turn r)) q.assumptions visited u k)) in
        all_of_intro (λ t. visits_output t (configurations First Turn r)) q.guarantees
        (λ s n.
        let h = all_of_elim (meets_at O d) q.guarantees (served_when_due q m e) s n in
        let k = guarantee_at_lem S q s m n in
        subst (λ (u : ℕ → Bool). visits_output u (configurations First Turn r) ≡ true) k.2
        (visits_goal k.0 k.1 (subst⁻¹ (λ (u : ℕ → Bool). meets_at O d u ≡ true) k.2 h))))

    -- Every reachable round meets all requirements.
    pub cycle_meets : all_of (λ q. meets q (configurations First Turn r)) S.requirements ≡ true
    cycle_meets = all_of_intro (λ q. meets q (configurations First Turn r)) S.requirements meets_one
