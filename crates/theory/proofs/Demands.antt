-- Demands 2 and 3, of the definitions. No theorem here assumes that a state has a move.
--
--   demand_two            : a position is in the region exactly when it is won
--   system_wins_lem           : the verdict is the system's exactly when the system wins the game
--   controller_wins       : then the controller's table, read from its list of entries, wins
--   environment_wins      : otherwise the environment's does
--   demand_three          : exactly one side holds a winning table, the verdict names it, and the table read from its list of entries wins
use Prim.Native.Nat.{ℕ, ◌<◌}
use native.Mathlib.Nat.{le-max_left}
use mathlib.Core.Path.{◌≡◌, refl, sym, ◌∙◌, subst, subst⁻¹}
use mathlib.Core.Bool.{Bool, true, false, ◌&&◌, not}
use mathlib.Core.Logic.{◌⊎◌, inl, inr, ◌↔◌}
use Rattle.finite.specs.Bounded.{least}
use Rattle.finite.proofs.Truth.{decide, true_of, and_intro, and_left, and_right, not_true}
use Rattle.finite.proofs.Bounded.{least_below, least_found, least_member}
use Rattle.graphs.specs.Graph.{edge, begins}
use Rattle.graphs.proofs.Walk.{keep}
use Rattle.graphs.proofs.Graph.{edge_to, begins_below}
use Rattle.arena.specs.Arena.{Separated, arena_of}
use Rattle.arena.specs.Table.{Answer, none, gives, Some, ControllerTable, EnvironmentTable}
use Rattle.arena.specs.Play.{Configuration, ControllerFirst, ControllerTurn, EnvironmentFirst, EnvironmentTurn, Reachable}
use Rattle.arena.specs.Win.{ControllerWins, EnvironmentWins, Controller, Keeps, Won, Opening, SystemWins, system, environment, DemandThree}
use Rattle.arena.proofs.Bounds.{bounded_arena_of}
use Rattle.duel.specs.Beats.{Beats}
use Rattle.duel.proofs.Duel.{not_won, demand_system, demand_environment}
use Rattle.theory.specs.Region.{answers, region, opens, verdict}
use Rattle.theory.specs.Choice.{controller_row, controller_start, environment_row, environment_start, refused}
use Rattle.theory.specs.Entries.{
  controller_counters,
  environment_counters,
  controller_entries,
  environment_entries,
  controller_table,
  environment_table,
  outcome,
}
use Rattle.theory.proofs.Region.{opens_intro, opens_elim, opens_false, verdict_intro, verdict_elim, some_refused}
use Rattle.theory.proofs.ControllerRow.{same_counter, same_state, replied}
use Rattle.theory.proofs.Controller.{Follows, Kept, turn_kept, step_some, cycle_meets}
use Rattle.theory.proofs.Environment as E
use Rattle.theory.proofs.Environment.{Presses, Lost, turn_lost, cycle_breaks}
use Rattle.theory.proofs.Entries.{Sized, controller_start_lem, environment_start_lem, read_follows, read_presses}

module _ (S : Separated) where
  pub controller_counts : 0 < controller_counters S
  unfolding controller_counters
  controller_counts = le-max_left 1 _

  pub environment_counts : 0 < environment_counters S
  unfolding environment_counters
  environment_counts = le-max_left 1 _

  -- any table that follows the rows keeps what is won, from whatever first configurations
  module _ (T : ControllerTable) (F : Follows S T) (First : Configuration → Type 0) (kept : (c : Configuration) → First c → Kept S c) where
    reached_kept : (c : Configuration) → Reachable First (ControllerTurn (arena_of S) T) c → Kept S c
    reached_kept c r = keep (Kept S) (turn_kept S T F) r.walk (kept r.origin r.first)

  module _ (P : EnvironmentTable) (F : Presses S P) (First : Configuration → Type 0) (lost : (c : Configuration) → First c → Lost S c) where
    reached_lost : (c : Configuration) → Reachable First (EnvironmentTurn (arena_of S) P) c → Lost S c
    reached_lost c r = keep (Lost S) (turn_lost S P F) r.walk (lost r.origin r.first)

  -- ---- demand 2

  -- the rows, completed by any move where they are none
  completed_step : ℕ → ℕ → ℕ → Answer
  completed_step g o j =
      elim (answers S (region S) j o) [
        | true ↦ controller_row S o g j
        | false ↦ gives 0 (least S.output.states (edge S.output o))
      ]

  completed : ControllerTable
  completed = record {
    memories = controller_counters S;
    start = λ i. gives 0 (least S.output.states (begins S.output));
    step = λ g o j. completed_step g o j;
  }

  completed_won : (g o j : ℕ) → answers S (region S) j o ≡ true → completed.step g o j ≡ controller_row S o g j
  unfolding completed completed_step
  completed_won g o j h = rw (h, completed_step) refl

  completed_else : (g o j : ℕ) → answers S (region S) j o ≡ false → completed.step g o j ≡ gives 0 (least S.output.states (edge S.output o))
  unfolding completed completed_step
  completed_else g o j h = rw (h, completed_step) refl

  completed_follows : Follows S completed
  unfolding completed
  completed_follows = record { counters = refl; rows = λ g o j lg lo lj h. completed_won g o j h }

  completed_steps : (g o j p : ℕ) → g < controller_counters S → edge S.output o p ≡ true
      → Some (controller_counters S) (edge S.output o) (completed.step g o j)
  completed_steps g o j p r e = go (decide (answers S (region S) j o))
    where
      go : (answers S (region S) j o ≡ true) ⊎ (answers S (region S) j o ≡ false) → Some (controller_counters S) (edge S.output o) (completed.step g o j)
      go (inl h) =
          let v = replied S o g j h r in
          record { memory = v.counter; state = v.state; names = record { is = completed_won g o j h ∙ v.is; memory = v.range; state = v.move } }
      go (inr h) = record {
        memory = 0;
        state = least S.output.states (edge S.output o);
        names = record {
          is = completed_else g o j h;
          memory = controller_counts;
          state = least_member S.output.states (edge S.output o) (least_below S.output.states (edge S.output o) p (edge_to S.output o p e) e);
        };
      }

  completed_starts : (i o : ℕ) → begins S.output o ≡ true → Some (controller_counters S) (begins S.output) (completed.start i)
  unfolding completed
  completed_starts i o e = record {
    memory = 0;
    state = least S.output.states (begins S.output);
    names = record {
      is = refl;
      memory = controller_counts;
      state = least_member S.output.states (begins S.output) (least_below S.output.states (begins S.output) o (begins_below S.output o e) e);
    };
  }

  completed_controller : Controller (arena_of S) completed
  unfolding arena_of completed
  completed_controller = record {
    starts = λ i o a e. completed_starts i o e;
    steps = λ m o j p r e. completed_steps m o j p r e;
  }

  pub region_won : (i o : ℕ) → region S i o ≡ true → Won (arena_of S) i o
  unfolding arena_of completed
  region_won i o h = record { table = completed; controller = completed_controller; memory = 0; keeps = keeps }
    where
      c : Configuration
      c = record { input = i; output = o; memory = 0 }

      first : (d : Configuration) → c ≡ d → Kept S d
      first d e = subst (Kept S) e (record { won = h; range = controller_counts })

      keeps : Keeps (arena_of S) completed c
      keeps = record {
        memory = controller_counts;
        steps = λ d r j e. step_some S completed completed_follows d j (reached_kept completed completed_follows (◌≡◌ c) first d r) e;
        rounds = λ r. cycle_meets S completed completed_follows (◌≡◌ c) r (reached_kept completed completed_follows (◌≡◌ c) first r.at r.reachable);
      }

  -- the rows alone, started anywhere
  pressed : EnvironmentTable
  pressed = record { memories = environment_counters S; start = none; step = λ h i o. environment_row S i h o }

  pressed_presses : Presses S pressed
  unfolding pressed
  pressed_presses = record { counters = refl; rows = λ h i o lh li lo n. refl }

  region_beaten : (i o : ℕ) → i < S.input.states → o < S.output.states → region S i o ≡ false
      → Beats (arena_of S) pressed (record { input = i; output = o; memory = 0 })
  unfolding arena_of pressed
  region_beaten i o a b h = record {
    memory = environment_counts;
    steps = λ d r. E.step_some S pressed pressed_presses d (reached_lost pressed pressed_presses (◌≡◌ c) first d r);
    rounds = λ r. cycle_breaks S pressed pressed_presses (◌≡◌ c) r (reached_lost pressed pressed_presses (◌≡◌ c) first r.at r.reachable);
  }
    where
      c : Configuration
      c = record { input = i; output = o; memory = 0 }

      first : (d : Configuration) → c ≡ d → Lost S d
      first d e = subst (Lost S) e (record { input = a; output = b; lost = h; range = environment_counts })

  pub won_region : (i o : ℕ) → i < S.input.states → o < S.output.states → Won (arena_of S) i o → region S i o ≡ true
  unfolding arena_of
  won_region i o a b w = true_of (region S i o) (λ n. not_won (bounded_arena_of S) i o 0 a b (region_beaten i o a b n) w)

  -- Demand 2: a position is in the region exactly when it is won.
  pub demand_two : (i o : ℕ) → i < S.input.states → o < S.output.states → (region S i o ≡ true) ↔ Won (arena_of S) i o
  demand_two i o a b = (region_won i o, won_region i o a b)

  -- ---- the verdict

  pub verdict_wins : verdict S ≡ true → SystemWins (arena_of S)
  unfolding arena_of opens
  verdict_wins v = record { openings = λ i e. opening i (verdict_elim S v i e) }
    where
      opening : (i : ℕ) → opens S i ≡ true → Opening (arena_of S) i
      opening i h = let w = opens_elim S i h in record { output = w.0; allowed = w.1; won = region_won i w.0 w.2 }

  pub wins_verdict : SystemWins (arena_of S) → verdict S ≡ true
  unfolding arena_of
  wins_verdict w =
      verdict_intro S
      (λ i e.
      let v = w.openings i e in
      opens_intro S i v.output v.allowed
      (won_region i v.output (begins_below S.input i e) (begins_below S.output v.output v.allowed) v.won))

  -- The verdict is the system's exactly when the system wins the game.
  pub system_wins_lem : (verdict S ≡ true) ↔ SystemWins (arena_of S)
  system_wins_lem = (verdict_wins, wins_verdict)

  -- ---- the tables read from the lists of entries

  module _ (Z : Sized S) where
    read_controller : ControllerTable
    read_controller = controller_table S.input.states (controller_counters S) (controller_entries S)

    read_environment : EnvironmentTable
    read_environment = environment_table S.output.states (environment_counters S) (environment_entries S)

    won_opening_lem : ℕ → ℕ → Bool
    won_opening_lem i o = begins S.output o && region S i o

    start_at : (i : ℕ) → begins S.input i ≡ true → opens S i ≡ true → controller_start S i ≡ gives 0 (least S.output.states (won_opening_lem i))
    unfolding controller_start won_opening_lem
    start_at i e h = rw (and_intro e h, controller_start) refl

    start_won : (i : ℕ) → opens S i ≡ true → won_opening_lem i (least S.output.states (won_opening_lem i)) ≡ true
    unfolding opens won_opening_lem
    start_won i h = least_member S.output.states (won_opening_lem i) (least_found S.output.states (won_opening_lem i) h)

    opening_begins : (i o : ℕ) → won_opening_lem i o ≡ true → begins S.output o ≡ true
    unfolding won_opening_lem
    opening_begins i o h = and_left (begins S.output o) (region S i o) h

    opening_won : (i o : ℕ) → won_opening_lem i o ≡ true → region S i o ≡ true
    unfolding won_opening_lem
    opening_won i o h = and_right (begins S.output o) (region S i o) h

    module _ (v : verdict S ≡ true) where
      start_read : (i : ℕ) → begins S.input i ≡ true → read_controller.start i ≡ gives 0 (least S.output.states (won_opening_lem i))
      unfolding read_controller
      start_read i e = controller_start_lem S Z i (begins_below S.input i e) ∙ start_at i e (verdict_elim S v i e)

      start_good : (i : ℕ) → begins S.input i ≡ true → won_opening_lem i (least S.output.states (won_opening_lem i)) ≡ true
      start_good i e = start_won i (verdict_elim S v i e)

      first_kept : (c : Configuration) → ControllerFirst (arena_of S) read_controller c → Kept S c
      unfolding arena_of
      first_kept c f =
          let i = c.input in
          let e = sym (start_read i f.initial) ∙ f.start.is in
          record {
            won = opening_won i c.output (subst (λ (o : ℕ). won_opening_lem i o ≡ true) (same_state e) (start_good i f.initial));
            range = subst (λ (g : ℕ). g < controller_counters S) (same_counter e) controller_counts;
          }

      follows : Follows S read_controller
      unfolding read_controller
      follows = read_follows S Z

      kept_reached : (c : Configuration) → Reachable (ControllerFirst (arena_of S) read_controller) (ControllerTurn (arena_of S) read_controller) c → Kept S c
      kept_reached c r = reached_kept read_controller follows (ControllerFirst (arena_of S) read_controller) first_kept c r

      starts_some : (i : ℕ) → begins S.input i ≡ true → Some (controller_counters S) (begins S.output) (read_controller.start i)
      starts_some i e = record {
        memory = 0;
        state = least S.output.states (won_opening_lem i);
        names = record {
          is = start_read i e;
          memory = controller_counts;
          state = opening_begins i (least S.output.states (won_opening_lem i)) (start_good i e);
        };
      }

      -- The controller's table wins when the verdict is the system's.
      controller_wins : ControllerWins (arena_of S) read_controller
      unfolding arena_of read_controller controller_table
      controller_wins = record {
        starts = starts_some;
        steps = λ c r j e. step_some S read_controller follows c j (kept_reached c r) e;
        rounds = λ r. cycle_meets S read_controller follows (ControllerFirst (arena_of S) read_controller) r (kept_reached r.at r.reachable);
      }

    module _ (v : verdict S ≡ false) where
      refused_least : refused S (least S.input.states (refused S)) ≡ true
      refused_least = least_member S.input.states (refused S) (least_found S.input.states (refused S) (some_refused S v))

      refused_begins : (i : ℕ) → refused S i ≡ true → begins S.input i ≡ true
      unfolding refused
      refused_begins i h = and_left (begins S.input i) (not (opens S i)) h

      refused_opens : (i : ℕ) → refused S i ≡ true → opens S i ≡ false
      unfolding refused
      refused_opens i h = not_true (opens S i) (and_right (begins S.input i) (not (opens S i)) h)

      start_refused : environment_start S ≡ gives 0 (least S.input.states (refused S))
      unfolding environment_start
      start_refused = rw (some_refused S v, environment_start) refl

      read_refused : read_environment.start ≡ gives 0 (least S.input.states (refused S))
      unfolding read_environment
      read_refused = environment_start_lem S Z ∙ start_refused

      first_lost : (c : Configuration) → EnvironmentFirst (arena_of S) read_environment c → Lost S c
      unfolding arena_of
      first_lost c f =
          let e = sym read_refused ∙ f.start.is in
          let q : refused S c.input ≡ true = subst (λ (i : ℕ). refused S i ≡ true) (same_state e) refused_least in
          record {
            input = begins_below S.input c.input (refused_begins c.input q);
            output = begins_below S.output c.output f.opening;
            lost = opens_false S c.input c.output (refused_opens c.input q) f.opening;
            range = subst (λ (h : ℕ). h < environment_counters S) (same_counter e) environment_counts;
          }

      presses : Presses S read_environment
      unfolding read_environment
      presses = read_presses S Z

      lost_reached : (c : Configuration) → Reachable (EnvironmentFirst (arena_of S) read_environment) (EnvironmentTurn (arena_of S) read_environment) c → Lost S c
      lost_reached c r = reached_lost read_environment presses (EnvironmentFirst (arena_of S) read_environment) first_lost c r

      start_some : Some (environment_counters S) (begins S.input) read_environment.start
      start_some = record {
        memory = 0;
        state = least S.input.states (refused S);
        names = record { is = read_refused; memory = environment_counts; state = refused_begins (least S.input.states (refused S)) refused_least };
      }

      -- Otherwise the environment's table wins.
      environment_wins : EnvironmentWins (arena_of S) read_environment
      unfolding arena_of read_environment environment_table
      environment_wins = record {
        starts = start_some;
        steps = λ c r. E.step_some S read_environment presses c (lost_reached c r);
        rounds = λ r. cycle_breaks S read_environment presses (EnvironmentFirst (arena_of S) read_environment) r (lost_reached r.at r.reachable);
      }

    -- what the controller's table comes to, in a game that the system wins, is won, with a counter in range
    pub reached_won : verdict S ≡ true → (c : Configuration)
        → Reachable (ControllerFirst (arena_of S) (controller_table S.input.states (controller_counters S) (controller_entries S)))
        (ControllerTurn (arena_of S) (controller_table S.input.states (controller_counters S) (controller_entries S))) c
        → Kept S c
    unfolding read_controller
    reached_won v c r = kept_reached v c r

    outcome_system : verdict S ≡ true → outcome S ≡ system read_controller
    unfolding outcome read_controller
    outcome_system v = rw (v, outcome) refl

    outcome_environment : verdict S ≡ false → outcome S ≡ environment read_environment
    unfolding outcome read_environment
    outcome_environment v = rw (v, outcome) refl

    -- Demand 3: the side that the verdict names holds a winning table, the one read from its list of entries, and no table of any finite size wins
    -- for the other side.
    pub demand_three : DemandThree (arena_of S) (outcome S)
    demand_three =
        elim (decide (verdict S)) [
          | inl v ↦ subst⁻¹ (DemandThree (arena_of S)) (outcome_system v) (demand_system (bounded_arena_of S) (controller_wins v))
          | inr v ↦ subst⁻¹ (DemandThree (arena_of S)) (outcome_environment v) (demand_environment (bounded_arena_of S) (environment_wins v))
        ]
