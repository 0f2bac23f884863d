-- A play kept by a table that follows the rows, while the input stays in the component of its first one.
--
--   Turn a b       == such a turn
--   Stays y        == what every configuration of the play keeps: its home is that of the first one, and lies ahead
--   homecoming     : after outputs - 1 turns the play is at home
--   visits         : from a configuration at home on, sets × outputs turns enter each set that meets home
use Prim.Native.Nat.{ℕ, suc, ◌-◌, ◌*◌, ◌≤◌, ◌<◌, max}
use native.Mathlib.Nat.{max-eq_right}
use native.Mathlib.Omega.{arith}
use mathlib.Core.Path.{◌≡◌, refl, sym, ◌∙◌, ap, subst}
use mathlib.Core.Bool.{true, false, ◌&&◌}
use mathlib.Core.Logic.{◌⊎◌, inl, inr}
use lib.ListN.{length}
use Rattle.finite.specs.Lists.{any_of}
use Rattle.finite.proofs.Truth.{decide, clash, true_of, false_of, and_intro, and_left, and_right}
use Rattle.finite.proofs.Bounded.{least_at_most, least_unique}
use Rattle.graphs.specs.Walk.{Walk, stay, step}
use Rattle.graphs.specs.Graph.{Graph, edge}
use Rattle.graphs.specs.Closure.{reaches}
use Rattle.graphs.specs.Component.{joined, nontrivial, meets_at}
use Rattle.graphs.specs.Way.{approach}
use Rattle.graphs.proofs.Walk.{keep}
use Rattle.graphs.proofs.Graph.{edge_to}
use Rattle.graphs.proofs.Closure.{reaches_to, reaches_edge, reaches_trans}
use Rattle.graphs.proofs.Component.{joined_self, joined_back, joined_sym, joined_trans, nontrivial_same}
use Rattle.graphs.proofs.Measure.{targets, lands}
use Rattle.graphs.proofs.Way.{Leads, toward_falls, approach_short}
use Rattle.arena.specs.Arena.{Separated, arena_of}
use Rattle.arena.specs.Table.{gives, ControllerTable}
use Rattle.arena.specs.Play.{Configuration, ControllerTurn}
use Rattle.theory.specs.Region.{home_for, settles, answers, region}
use Rattle.theory.specs.Tour.{goal_at}
use Rattle.theory.specs.Choice.{guarantees, home, homeward}
use Rattle.theory.specs.Entries.{controller_counters}
use Rattle.theory.proofs.Region.{home_for_same, home_for_nontrivial, region_in, region_out, region_settles}
use Rattle.theory.proofs.Delay.{reply}
use Rattle.theory.proofs.Tour.{Toured, toured, to_go, to_go_most, inside_to}
use Rattle.theory.proofs.ControllerRow.{
  same_counter,
  same_state,
  near_reaches,
  home_leads,
  home_reached,
  home_home_for,
  home_same,
  row_answers,
  settled_nontrivial,
  homeward_at,
  homeward_away,
}
use Rattle.theory.proofs.Controller.{Follows, Kept, turn_kept}

module _ (S : Separated) (T : ControllerTable) (F : Follows S T) (x : Configuration) (K : Kept S x) (n : nontrivial S.input x.input ≡ true) where
  abbrev I : Graph
  I = S.input

  abbrev O : Graph
  O = S.output

  abbrev c : ℕ
  c = x.input

  -- home, for the whole play
  abbrev d : ℕ
  d = home S x.input x.output

  pub record Turn (a b : Configuration) : Type 0 where
    pub turn : ControllerTurn (arena_of S) T a b
    pub here : joined I c b.input ≡ true

  pub record Stays (y : Configuration) : Type 0 where
    pub keeps : Kept S y
    pub inputs : joined I c y.input ≡ true
    pub same : home S y.input y.output ≡ d
    pub ahead : reaches O y.output d ≡ true

  x_settles : settles S (region S) x.input x.output ≡ true
  x_settles =
      sym (region_settles S x.input x.output (region_in S x.input x.output K.won) (region_out S x.input x.output K.won) n) ∙ K.won

  d_home : home_for S (region S) c d ≡ true
  d_home = home_home_for S x.input x.output x_settles

  d_nontrivial : nontrivial O d ≡ true
  d_nontrivial = home_for_nontrivial S (region S) c d d_home

  pub stays_first : Stays x
  stays_first = record {
    keeps = K;
    inputs = joined_self I x.input (region_in S x.input x.output K.won);
    same = refl;
    ahead = home_reached S x.input x.output x_settles;
  }

  turn_edge : (a b : Configuration) → Turn a b → edge I a.input b.input ≡ true
  unfolding arena_of
  turn_edge a b t = t.turn.move

  reply_edge : (a b : Configuration) → Turn a b → edge O a.output b.output ≡ true
  unfolding arena_of
  reply_edge a b t = t.turn.step.state

  -- the two inputs of a turn lie in one component
  inputs_joined : (a b : Configuration) → Stays a → Turn a b → joined I b.input a.input ≡ true
  inputs_joined a b s t = joined_trans I b.input c a.input (joined_sym I c b.input t.here) s.inputs

  -- the reply is by the row towards home
  turn_homeward : (a b : Configuration) → Stays a → Turn a b → homeward S d a.output a.memory ≡ gives b.memory b.output
  turn_homeward a b s t =
      ap (λ (k : ℕ). homeward S k a.output a.memory) (sym there)
      ∙ sym (settled_nontrivial S a.output a.memory b.input (sym (nontrivial_same I c b.input t.here) ∙ n))
      ∙ sym (row_answers S a.output a.memory b.input answered)
      ∙ sym (F.rows a.memory a.output b.input s.keeps.range below (edge_to I a.input b.input (turn_edge a b t)) answered)
      ∙ t.turn.step.is
    where
      below : a.output < O.states
      below = region_out S a.input a.output s.keeps.won

      answered : answers S (region S) b.input a.output ≡ true
      answered = reply S a.input a.output b.input s.keeps.won (turn_edge a b t)

      there : home S b.input a.output ≡ d
      there = home_same S b.input a.input a.output a.output (inputs_joined a b s t) (joined_self O a.output below) ∙ s.same

  -- at home the reply is a move of the tour
  turn_toured : (a b : Configuration) (s : Stays a) → Turn a b → joined O d a.output ≡ true
      → (v : Toured O d (guarantees S) a.output a.memory) × (gives v.counter v.state ≡ gives b.memory b.output)
  unfolding controller_counters
  turn_toured a b s t h =
      let v = toured O d (guarantees S) a.output a.memory h (sym (nontrivial_same O d a.output h) ∙ d_nontrivial) s.keeps.range in
      (v, sym v.is ∙ sym (homeward_at S d a.output a.memory h) ∙ turn_homeward a b s t)

  -- and stays at home
  home_turn : (a b : Configuration) → Stays a → Turn a b → joined O d a.output ≡ true → joined O d b.output ≡ true
  home_turn a b s t h =
      let v = turn_toured a b s t h in
      subst (λ (p : ℕ). joined O d p ≡ true) (same_state v.1) (inside_to O d a.output v.0.state v.0.moves)

  abbrev μ : Configuration → ℕ
  μ y = approach O.states (edge O) (joined O d) y.output

  -- away from home the reply comes home, or nearer
  away_turn : (a b : Configuration) → Stays a → Turn a b → joined O d a.output ≡ false
      → (joined O d b.output ≡ true) ⊎ (Leads O.states (edge O) (joined O d) b.output × (μ b < μ a))
  away_turn a b s t f =
      subst (λ (p : ℕ). (joined O d p ≡ true) ⊎ (Leads O.states (edge O) (joined O d) p × (approach O.states (edge O) (joined O d) p < μ a)))
      (same_state (sym (homeward_away S d a.output a.memory f) ∙ turn_homeward a b s t))
      (toward_falls O.states (edge O) (joined O d) a.output (home_leads O d a.output s.ahead d_nontrivial))

  turn_ahead : (a b : Configuration) → Stays a → Turn a b → reaches O b.output d ≡ true
  turn_ahead a b s t =
      elim (decide (joined O d a.output)) [
        | inl h ↦ joined_back O d b.output (home_turn a b s t h)
        | inr f ↦
            elim (away_turn a b s t f) [
              | inl h ↦ joined_back O d b.output h
              | inr v ↦ reaches_trans O b.output v.0.next d (reaches_edge O b.output v.0.next v.0.move)
                  (near_reaches O d v.0.moves v.0.next v.0.way)
            ]
      ]

  -- what b reaches a reaches too, so that no lower home comes into reach
  turn_same : (a b : Configuration) → Stays a → Turn a b → home S b.input b.output ≡ d
  unfolding home
  turn_same a b s t =
      least_unique O.states (λ e. reaches O b.output e && home_for S (region S) b.input e) d (reaches_to O b.output d ahead)
      (and_intro ahead (home_for_same S (region S) c b.input d t.here d_home))
      (λ e l. false_of (reaches O b.output e && home_for S (region S) b.input e) (λ h. absurd (omega (arith, l, s.same, lower e h))))
    where
      ahead : reaches O b.output d ≡ true
      ahead = turn_ahead a b s t

      lower : (e : ℕ) → (reaches O b.output e && home_for S (region S) b.input e) ≡ true → home S a.input a.output ≤ e
      lower e h =
          least_at_most O.states (λ k. reaches O a.output k && home_for S (region S) a.input k) e
          (and_intro
          (reaches_trans O a.output b.output e (reaches_edge O a.output b.output (reply_edge a b t))
          (and_left (reaches O b.output e) (home_for S (region S) b.input e) h))
          (home_for_same S (region S) b.input a.input e (inputs_joined a b s t)
          (and_right (reaches O b.output e) (home_for S (region S) b.input e) h)))

  pub stays_turn : (a b : Configuration) → Stays a → Turn a b → Stays b
  stays_turn a b s t = record {
    keeps = turn_kept S T F a b s.keeps t.turn;
    inputs = t.here;
    same = turn_same a b s t;
    ahead = turn_ahead a b s t;
  }

  -- a configuration of the play that is at home
  record Homed (y : Configuration) : Type 0 where
    stays : Stays y
    home : joined O d y.output ≡ true

  homed_turn : (a b : Configuration) → Homed a → Turn a b → Homed b
  homed_turn a b h t = record { stays = stays_turn a b h.stays t; home = home_turn a b h.stays t h.home }

  -- where the play is still away it has had no more turns than the way home was long
  coming : {a y : Configuration} (w : Walk Turn a y) → Stays a → joined O d y.output ≡ false → length (targets w) ≤ μ a
  unfolding targets
  coming stay s f = omega arith
  coming {a} {y} (step {b = b} t w) s f = go (away_turn a b s t away) (coming w (stays_turn a b s t) f)
    where
      still : (e : Configuration) → Stays e → Walk Turn e y → joined O d e.output ≡ false
      still e k v = false_of (joined O d e.output) (λ h. clash (keep Homed homed_turn v (record { stays = k; home = h })).home f)

      away : joined O d a.output ≡ false
      away = still a s (step t w)

      go : (joined O d b.output ≡ true) ⊎ (Leads O.states (edge O) (joined O d) b.output × (μ b < μ a))
          → length (targets w) ≤ μ b → suc (length (targets w)) ≤ μ a
      go (inl h) k = clash h (still b (stays_turn a b s t) w)
      go (inr v) k = omega (arith, v.1, k)

  pub homecoming : {y : Configuration} (w : Walk Turn x y) → O.states - 1 ≤ length (targets w) → joined O d y.output ≡ true
  homecoming {y} w l =
      true_of (joined O d y.output)
      (λ f. absurd (omega (
        arith,
        l,
        coming w stays_first f,
        approach_short O.states (edge O) (joined O d) x.output (region_out S x.input x.output K.won)
            (false_of (joined O d x.output) (λ h. clash (keep Homed homed_turn w (record { stays = stays_first; home = h })).home f))
            (home_leads O d x.output stays_first.ahead d_nontrivial),
      )))

  module _ (q : ℕ) (b : q < length (guarantees S)) (m : meets_at O d (goal_at (guarantees S) q) ≡ true) where
    abbrev ν : Configuration → ℕ
    ν y = to_go O d (guarantees S) q y.output y.memory

    -- at home each turn enters the set, or brings it nearer
    visit_turn : (a e : Configuration) → Homed a → Turn a e → (goal_at (guarantees S) q e.output ≡ true) ⊎ (ν e < ν a)
    visit_turn a e h t =
        let v = turn_toured a e h.stays t h.home in
        subst (λ (p : ℕ). (goal_at (guarantees S) q p ≡ true) ⊎ (to_go O d (guarantees S) q p e.memory < ν a)) (same_state v.1)
        (subst (λ (g : ℕ). (goal_at (guarantees S) q v.0.state ≡ true) ⊎ (to_go O d (guarantees S) q v.0.state g < ν a)) (same_counter v.1)
        (v.0.lands q b m))

    pub visits : {y z : Configuration} → Walk Turn x y → joined O d y.output ≡ true → (w : Walk Turn y z)
        → max 1 (length (guarantees S)) * O.states ≤ length (targets w) → any_of (λ e. goal_at (guarantees S) q e.output) (targets w) ≡ true
    unfolding to_go controller_counters
    visits {y} {z} v h w l =
        let s = keep Stays stays_turn v stays_first in
        let k : max 1 (length (guarantees S)) ≡ length (guarantees S) = max-eq_right (omega arith) in
        elim (lands z Homed (λ e. goal_at (guarantees S) q e.output) ν (λ a e i t u. (homed_turn a e i t, visit_turn a e i t)) w
        (record { stays = s; home = h })) [
          | inl r ↦ r
          | inr r ↦ absurd (omega (
            arith,
            subst (λ (e : ℕ). e * O.states ≤ length (targets w)) k l,
            to_go_most O d (guarantees S) q y.output y.memory b m (subst (λ (e : ℕ). y.memory < e) k s.keeps.range) h
                (sym (nontrivial_same O d y.output h) ∙ d_nontrivial),
          ))
        ]
