-- What a player does is a walk of its table, and with a table that wins it is never refused.
--
--   first_of      : the position that begin gives is a first configuration of the table
--   turn_of       : the position that step gives is made by a turn of the table
--   ran           : so the positions of a run are a walk from a first configuration, whatever the table
--   wins_run      : with a table that wins, a player begun with an initial input and stepped with moves is never refused
--   cycle_meets   : and where it comes back to a position, what it passed meets all requirements
use Prim.Native.Nat.{ℕ}
use mathlib.Core.Path.{◌≡◌, refl, sym, ◌∙◌, ap, subst}
use mathlib.Core.Bool.{true}
use mathlib.Core.List.{List, [], ◌∷◌, map}
use native.Mathlib.Omega.{arith}
use lib.ListN.{length}
use borrow.Author.Tests.{lt-ltb, eq-eqb}
use Rattle.finite.specs.Lists.{all_of}
use Rattle.finite.proofs.Truth.{and_intro, and_left, and_right}
use Rattle.graphs.specs.Graph.{edge, begins}
use Rattle.graphs.specs.Walk.{Walk, stay, step, passed}
use Rattle.graphs.proofs.Walk.{extend}
use Rattle.arena.specs.Arena.{arena_of}
use Rattle.arena.specs.Play.{Configuration, ControllerFirst, ControllerTurn, Cycle, configurations, meets}
use Rattle.arena.specs.Win.{ControllerWins}
use Rattle.arena.proofs.Bounds.{bounded_arena_of, inside_controller}
use Rattle.arena.proofs.Demand.{system_holds}
use Rattle.game.specs.declared.InState.{InState}
use Rattle.game.specs.declared.Game.{Game}
use Rattle.game.specs.Acceptance.{accepted, acceptance}
use Rattle.play.specs.Play.{graph_of, separated_of}
use Rattle.theory.specs.Region.{verdict}
use Rattle.theory.specs.Entries.{controller_counters, controller_entries, controller_table}
use Rattle.demands.specs.Demands.{play_of, controller_of}
use Rattle.demands.proofs.Demands.{demand_three_system}
use Rattle.player_place.specs.declared.Position.{Position}
use Rattle.player_place.specs.Played.{Played}
use Rattle.player_place.specs.Place.{provided, arrives, has_position}
use Rattle.player.specs.Player.{fitting, begun, stepped, beginning, stepping}
use Rattle.player.specs.Runs.{configuration, along, next, run_of, position_of, trail_of, run, trail, PlayerReached, Ran}
use Rattle.player_place.proofs.Tests.{held, counter_last}
use Rattle.player.proofs.Answers.{beginning_accepted, stepping_accepted}
use Rattle.player.proofs.Inverse.{arrives_some, began, turned}
use Rattle.game.specs.declared.Refusal.{Refusal}
use Rattle.std.specs.declared.result.Result.TheVariants.{Ok, Err}
use Rattle.game.specs.declared.Refusal.TheVariants.{NotAllowed, OtherTable}

-- nothing follows a refusal

ended : (g : Game) (l : List ℕ) (js : List InState) (n : Refusal) → run_of g l js (Err n) ≡ Err n
unfolding run_of next
ended g l [] n = refl
ended g l (j ∷ js) n = ended g l js n

module _ (g : Game) (l : List ℕ) where
  pub first_of : (i : InState) (p : Position) → beginning g l i ≡ Ok p → ControllerFirst (play_of g) (controller_of g l) (configuration p)
  unfolding play_of arena_of separated_of controller_of controller_table configuration
  first_of i p e =
      let v = began g l i p e in
      record { initial = rw v.arrived.input v.initial; start = rw v.arrived.input v.arrived.names }

  turn_of : (p : Position) (j : InState) (q : Position) → stepping g l p j ≡ Ok q
      → ControllerTurn (play_of g) (controller_of g l) (configuration p) (configuration q)
  unfolding play_of arena_of separated_of controller_of controller_table configuration
  turn_of p j q e =
      let v = turned g l p j q e in
      record { move = rw v.arrived.input v.move; step = rw v.arrived.input v.arrived.names }

  -- a walk from p to q that passes the positions of the list
  pub record Passes (ps : List Position) (p q : Position) : Type 0 where
    pub walk : Walk (ControllerTurn (play_of g) (controller_of g l)) (configuration p) (configuration q)
    pub passes : passed walk ≡ map configuration ps

  alone : (p : Position) → Passes (p ∷ []) p p
  unfolding passed
  alone p = record { walk = stay; passes = refl }

  walk_of : (js : List InState) (p q : Position) → run_of g l js (Ok p) ≡ Ok q → Passes (trail_of g l js (Ok p)) p q
  unfolding run_of trail_of position_of next passed
  walk_of [] p q e = let h : p ≡ q = cc in subst (Passes (p ∷ []) p) h (alone p)
  walk_of (j ∷ js) p q e = go (stepping g l p j) refl e (walk_of js)
    where
      go : (x : Played) → stepping g l p j ≡ x → run_of g l js x ≡ Ok q
          → ((r s : Position) → run_of g l js (Ok r) ≡ Ok s → Passes (trail_of g l js (Ok r)) r s) → Passes (p ∷ trail_of g l js (stepping g l p j)) p q
      go (Ok r) d f rec =
          let w = rec r q f in
          record {
            walk = step (turn_of p j r d) w.walk;
            passes = ap (◌∷◌ (configuration p)) (w.passes ∙ ap (λ (x : Played). map configuration (trail_of g l js x)) (sym d));
          }
      go (Err n) d f rec = absurd (let z : ◌≡◌ {A = ℕ} 0 1 = cc (ended g l js n) in omega arith)

  ran_from : (i : InState) (js : List InState) (p q : Position) → beginning g l i ≡ Ok p → run_of g l js (Ok p) ≡ Ok q → Ran g l i js
  unfolding run trail
  ran_from i js p q b e =
      let w = walk_of js p q e in
      record {
        first = p;
        last = q;
        starts = first_of i p b;
        ends = ap (run_of g l js) b ∙ e;
        walk = w.walk;
        passes = w.passes ∙ ap (λ (x : Played). map configuration (trail_of g l js x)) (sym b);
      }

  -- Whatever the table: the positions of a run that is not refused are a walk of it from a first configuration.
  ran : (i : InState) (js : List InState) (q : Position) → run g l i js ≡ Ok q → Ran g l i js
  unfolding run
  ran i js q e = go (beginning g l i) refl e
    where
      go : (x : Played) → beginning g l i ≡ x → run_of g l js x ≡ Ok q → Ran g l i js
      go (Ok p) d f = ran_from i js p q d f
      go (Err n) d f = absurd (let z : ◌≡◌ {A = ℕ} 0 1 = cc (ended g l js n) in omega arith)

  -- what a player comes to is reachable
  pub reached : (i : InState) (js : List InState) (q : Position) → run g l i js ≡ Ok q → PlayerReached g l q
  unfolding run
  reached i js q e =
      let v = ran i js q e in
      let h : v.last ≡ q = cc (v.ends, e) in
      subst (PlayerReached g l) h (record { origin = configuration v.first; first = v.starts; walk = v.walk })

  module _ (a : acceptance g ≡ accepted) (f : fitting g l ≡ true) (W : ControllerWins (play_of g) (controller_of g l)) where
    wins_begin : (i : InState) → begins (graph_of g.input) i.0 ≡ true → (p : Position) × (beginning g l i ≡ Ok p)
    unfolding play_of arena_of separated_of controller_of controller_table begun
    wins_begin i b =
        let M = controller_counters (separated_of g) in
        let start = arrives M (begins (graph_of g.output)) i ((controller_of g l).start i.0) in
        let v = arrives_some M (begins (graph_of g.output)) i ((controller_of g l).start i.0) (W.starts i.0 b) in
        (v.0, sym (beginning_accepted g l i (Ok v.0) a (sym v.1 ∙ held NotAllowed start b ∙ held OtherTable (provided (begins (graph_of g.input) i.0) NotAllowed start) f)))

    -- a reachable position is one that the game has
    in_game_lem : (p : Position) → PlayerReached g l p
        → has_position g (controller_counters (separated_of g)) p ≡ true
    unfolding play_of arena_of separated_of graph_of controller_of controller_table configuration
    in_game_lem p r =
        let b = inside_controller (bounded_arena_of (separated_of g)) (controller_of g l) (configuration p) r in
        sym (counter_last g (controller_counters (separated_of g)) p b.input b.output) ∙ lt-ltb p.counter (controller_counters (separated_of g))
        b.memory

    wins_step : (p : Position) (j : InState)
        → PlayerReached g l p
        → edge (graph_of g.input) p.input.0 j.0 ≡ true → (q : Position) × (stepping g l p j ≡ Ok q)
    unfolding play_of arena_of separated_of controller_of controller_table configuration stepped
    wins_step p j r m =
        let M = controller_counters (separated_of g) in
        let row = arrives M (edge (graph_of g.output) p.output.0) j ((controller_of g l).step p.counter p.output.0 j.0) in
        let v = arrives_some M (edge (graph_of g.output) p.output.0) j ((controller_of g l).step p.counter p.output.0 j.0)
        (W.steps (configuration p) r j.0 m) in (
          v.0,
          sym
              (stepping_accepted g l p j (Ok v.0) a
              (sym v.1 ∙ held NotAllowed row m ∙ held OtherTable (provided (edge (graph_of g.input) p.input.0 j.0) NotAllowed row) (and_intro f (in_game_lem p r)))),
        )

    -- one position more is reachable too
    onward : (p : Position) (j : InState) (q : Position)
        → PlayerReached g l p
        → stepping g l p j ≡ Ok q → PlayerReached g l q
    onward p j q r e = record { origin = r.origin; first = r.first; walk = extend r.walk (turn_of p j q e) }

    wins_on : (js : List InState) (p : Position)
        → PlayerReached g l p
        → along g p.input.0 js ≡ true → (q : Position) × (run_of g l js (Ok p) ≡ Ok q)
    unfolding run_of next along
    wins_on [] p r h = (p, refl)
    wins_on (j ∷ js) p r h =
        let v = wins_step p j r (and_left (edge (graph_of g.input) p.input.0 j.0) (along g j.0 js) h) in
        let t = turned g l p j v.0 v.1 in
        let w = wins_on js v.0 (onward p j v.0 r v.1)
        (ap (λ (k : InState). along g k.0 js) t.arrived.input
        ∙ and_right (edge (graph_of g.input) p.input.0 j.0) (along g j.0 js) h) in
        (w.0, ap (run_of g l js) v.1 ∙ w.1)

    -- The theorem over runs: begun with an initial input and stepped with moves, a player whose table wins is never refused, and the positions that it
    -- passes are a walk of that table from a first configuration.
    wins_run : (i : InState) (js : List InState) → begins (graph_of g.input) i.0 ≡ true → along g i.0 js ≡ true → Ran g l i js
    wins_run i js b h =
        let v = wins_begin i b in
        let s = began g l i v.0 v.1 in
        let first = first_of i v.0 v.1 in
        let w = wins_on js v.0 (record { origin = configuration v.0; first = first; walk = stay })
        (ap (λ (k : InState). along g k.0 js) s.arrived.input ∙ h) in
        ran_from i js v.0 w.0 v.1 w.1

    -- What demand 3 says of cycles holds of what the player does: where it comes back to a position, the positions that it passed meet all requirements.
    pub cycle_meets : (i : InState) (js : List InState) (p : Position) → run g l i js ≡ Ok p
        → (j : InState) (ks : List InState) → run_of g l (j ∷ ks) (Ok p) ≡ Ok p
        → all_of (λ q. meets q (map configuration (trail_of g l (j ∷ ks) (Ok p)))) (play_of g).requirements ≡ true
    unfolding run_of trail_of position_of next configurations
    cycle_meets i js p e j ks back = go (stepping g l p j) refl back
      where
        go : (x : Played) → stepping g l p j ≡ x → run_of g l ks x ≡ Ok p
            → all_of (λ q. meets q (map configuration (p ∷ trail_of g l ks (stepping g l p j)))) (play_of g).requirements ≡ true
        go (Ok r) d h =
            let w = walk_of ks r p h in
            let cycle : Cycle (ControllerFirst (play_of g) (controller_of g l)) (ControllerTurn (play_of g) (controller_of g l)) = record {
              at = configuration p;
              next = configuration r;
              last = configuration p;
              turn = turn_of p j r d;
              rest = w.walk;
              back = refl;
              reachable = reached i js p e;
            } in
            ap (λ (x : Played). all_of (λ q. meets q (map configuration (p ∷ trail_of g l ks x))) (play_of g).requirements) d
            ∙ ap (λ (cs : List Configuration). all_of (λ q. meets q (configuration p ∷ cs)) (play_of g).requirements) (sym w.passes)
            ∙ W.rounds cycle
        go (Err n) d h = absurd (let z : ◌≡◌ {A = ℕ} 0 1 = cc (ended g l ks n) in omega arith)

-- The solver's front: where the verdict names the system, its table's entries are such a table.
pub solved_run : (g : Game) → acceptance g ≡ accepted → verdict (separated_of g) ≡ true
    → (i : InState) (js : List InState) → begins (graph_of g.input) i.0 ≡ true → along g i.0 js ≡ true → Ran g (controller_entries (separated_of g)) i js
unfolding fitting
solved_run g a v =
    wins_run g (controller_entries (separated_of g)) a
    (eq-eqb (length (controller_entries (separated_of g))) (length (controller_entries (separated_of g))) refl)
    (system_holds (play_of g) (controller_of g (controller_entries (separated_of g))) (demand_three_system g a v))
