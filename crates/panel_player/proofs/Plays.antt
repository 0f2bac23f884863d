-- What is played against a panel's table is a walk of it, and with a table that wins it is never refused.
--
--   ran           : the positions of a play that is not refused are a walk from a first configuration, whatever the table
--   wins_play     : with a table that wins, a play begun with an initial output and stepped with moves is never refused
--   wins_first, wins_next : nor is the panel's first move, nor its move wherever the play has come
--   cycle_breaks  : where it comes back to a position, what it passed breaks a requirement
--   solved_play   : all of that holds of the solver's table, where the verdict names the environment
use Prim.Native.Nat.{ℕ}
use mathlib.Core.Path.{◌≡◌, refl, sym, ◌∙◌, ap, subst}
use mathlib.Core.Bool.{true, false}
use mathlib.Core.List.{List, [], ◌∷◌, map}
use native.Mathlib.Omega.{arith}
use lib.ListN.{length}
use borrow.Author.Tests.{lt-ltb, eq-eqb}
use Rattle.finite.specs.Lists.{any_of}
use Rattle.finite.proofs.Truth.{and_left, and_right}
use Rattle.graphs.specs.Graph.{edge, begins}
use Rattle.graphs.specs.Walk.{Walk, stay, step, passed}
use Rattle.graphs.proofs.Walk.{extend}
use Rattle.arena.specs.Arena.{arena_of}
use Rattle.arena.specs.Play.{Configuration, EnvironmentFirst, EnvironmentTurn, Cycle, configurations, breaks}
use Rattle.arena.specs.Table.{Some}
use Rattle.arena.specs.Win.{EnvironmentWins}
use Rattle.arena.proofs.Bounds.{bounded_arena_of, inside_environment}
use Rattle.arena.proofs.Demand.{environment_holds}
use Rattle.game.specs.declared.OutState.{OutState}
use Rattle.game.specs.declared.Game.{Game}
use Rattle.game.specs.Acceptance.{accepted, acceptance}
use Rattle.play.specs.Play.{graph_of, separated_of}
use Rattle.theory.specs.Region.{verdict}
use Rattle.theory.specs.Entries.{environment_counters, environment_entries, environment_table}
use Rattle.demands.specs.Demands.{play_of, environment_of}
use Rattle.demands.proofs.Demands.{demand_three_environment}
use Rattle.player_place.specs.declared.Position.{Position}
use Rattle.player_place.specs.Played.{Played}
use Rattle.player_place.specs.Place.{has_position}
use Rattle.player_place.proofs.Tests.{counter_last}
use Rattle.player.specs.Runs.{configuration, position_of}
use Rattle.panel_place.specs.declared.PanelMove.{PanelMove}
use Rattle.panel_player.specs.Panel.{panel_fitting, panel_first, panel_begin, panel_next, panel_step}
use Rattle.panel_player.specs.Plays.{along_outputs, answer_after, play_on, trail_on, play, panel_trail, PanelReached, PanelRan}
use Rattle.panel_player.proofs.Inverse.{began, turned, faithful, playable}
use Rattle.game.specs.declared.Refusal.{Refusal}
use Rattle.std.specs.declared.result.Result.TheVariants.{Ok, Err}

-- nothing follows a refusal

ended : (g : Game) (l : List ℕ) (qs : List OutState) (n : Refusal) → play_on g l qs (Err n) ≡ Err n
unfolding play_on answer_after
ended g l [] n = refl
ended g l (q ∷ qs) n = ended g l qs n

module _ (g : Game) (l : List ℕ) where
  -- a walk from p to r that passes the positions of the list
  pub record Passes (ps : List Position) (p r : Position) : Type 0 where
    pub walk : Walk (EnvironmentTurn (play_of g) (environment_of g l)) (configuration p) (configuration r)
    pub passes : passed walk ≡ map configuration ps

  alone : (p : Position) → Passes (p ∷ []) p p
  unfolding passed
  alone p = record { walk = stay; passes = refl }

  walk_of : (qs : List OutState) (p r : Position) → play_on g l qs (Ok p) ≡ Ok r → Passes (trail_on g l qs (Ok p)) p r
  unfolding play_on trail_on position_of answer_after passed
  walk_of [] p r e = let h : p ≡ r = cc in subst (Passes (p ∷ []) p) h (alone p)
  walk_of (q ∷ qs) p r e = go (panel_step g l p q) refl e (walk_of qs)
    where
      go : (x : Played) → panel_step g l p q ≡ x → play_on g l qs x ≡ Ok r
          → ((s t : Position) → play_on g l qs (Ok s) ≡ Ok t → Passes (trail_on g l qs (Ok s)) s t) → Passes (p ∷ trail_on g l qs (panel_step g l p q)) p r
      go (Ok s) d f rec =
          let w = rec s r f in
          record {
            walk = step ((faithful g l).turns p q s d) w.walk;
            passes = ap (◌∷◌ (configuration p)) (w.passes ∙ ap (λ (x : Played). map configuration (trail_on g l qs x)) (sym d));
          }
      go (Err n) d f rec = absurd (let z : ◌≡◌ {A = ℕ} 0 1 = cc (ended g l qs n) in omega arith)

  ran_from : (o : OutState) (qs : List OutState) (p r : Position) → panel_begin g l o ≡ Ok p → play_on g l qs (Ok p) ≡ Ok r → PanelRan g l o qs
  unfolding play panel_trail
  ran_from o qs p r b e =
      let w = walk_of qs p r e in
      record {
        first = p;
        last = r;
        starts = (faithful g l).begins o p b;
        ends = ap (play_on g l qs) b ∙ e;
        walk = w.walk;
        passes = w.passes ∙ ap (λ (x : Played). map configuration (trail_on g l qs x)) (sym b);
      }

  -- Whatever the table: the positions of a play that is not refused are a walk of it from a first configuration.
  ran : (o : OutState) (qs : List OutState) (r : Position) → play g l o qs ≡ Ok r → PanelRan g l o qs
  unfolding play
  ran o qs r e = go (panel_begin g l o) refl e
    where
      go : (x : Played) → panel_begin g l o ≡ x → play_on g l qs x ≡ Ok r → PanelRan g l o qs
      go (Ok p) d f = ran_from o qs p r d f
      go (Err n) d f = absurd (let z : ◌≡◌ {A = ℕ} 0 1 = cc (ended g l qs n) in omega arith)

  -- what a play comes to is reachable
  reached : (o : OutState) (qs : List OutState) (r : Position) → play g l o qs ≡ Ok r → PanelReached g l r
  unfolding play
  reached o qs r e =
      let v = ran o qs r e in
      let h : v.last ≡ r = cc (v.ends, e) in
      subst (PanelReached g l) h (record { origin = configuration v.first; first = v.starts; walk = v.walk })

  module _ (a : acceptance g ≡ accepted) (f : panel_fitting g l ≡ true) (W : EnvironmentWins (play_of g) (environment_of g l)) where
    -- the position that the panel's start makes with an output
    unfoldable opened : OutState → Position
    opened o = record { input = record { 0 = W.starts.state }; output = o; counter = W.starts.memory }

    pub wins_first : (m : PanelMove) × (panel_first g l ≡ Ok m)
    wins_first = (_, (playable g l a f).tells_first W.starts.memory W.starts.state W.starts.names)

    wins_begin : (o : OutState) → begins (graph_of g.output) o.0 ≡ true → panel_begin g l o ≡ Ok (opened o)
    unfolding play_of arena_of separated_of configuration opened
    wins_begin o b = (playable g l a f).begins (opened o) (record { start = W.starts.names; opening = b })

    -- a reachable position is one that the game has
    in_game_lem : (p : Position) → PanelReached g l p → has_position g (environment_counters (separated_of g)) p ≡ true
    unfolding play_of arena_of separated_of graph_of environment_of environment_table configuration
    in_game_lem p r =
        let b = inside_environment (bounded_arena_of (separated_of g)) (environment_of g l) (configuration p) r in
        sym (counter_last g (environment_counters (separated_of g)) p b.input b.output)
        ∙ lt-ltb p.counter (environment_counters (separated_of g)) b.memory

    module _ (p : Position) (r : PanelReached g l p) where
      -- what the table does there
      row : Some (environment_of g l).memories ((play_of g).in_move (configuration p).input)
          ((environment_of g l).step (configuration p).memory (configuration p).input (configuration p).output)
      row = W.steps (configuration p) r

      unfoldable after : OutState → Position
      after q = record { input = record { 0 = row.state }; output = q; counter = row.memory }

      wins_step : (q : OutState) → edge (graph_of g.output) p.output.0 q.0 ≡ true → panel_step g l p q ≡ Ok (after q)
      unfolding play_of arena_of separated_of configuration after
      wins_step q m = (playable g l a f).turns p (after q) (in_game_lem p r) (record { step = row.names; reply = m })

      pub wins_next : (m : PanelMove) × (panel_next g l p ≡ Ok m)
      unfolding configuration
      wins_next = (_, (playable g l a f).tells p (in_game_lem p r) row.memory row.state row.names)

      -- one position more is reachable too
      onward : (q : OutState) (s : Position) → panel_step g l p q ≡ Ok s → PanelReached g l s
      onward q s e = record { origin = r.origin; first = r.first; walk = extend r.walk ((faithful g l).turns p q s e) }

    wins_on : (qs : List OutState) (p : Position) → PanelReached g l p → along_outputs g p.output.0 qs ≡ true → (s : Position)
        × (play_on g l qs (Ok p) ≡ Ok s)
    unfolding play_on answer_after along_outputs
    wins_on [] p r h = (p, refl)
    wins_on (q ∷ qs) p r h =
        let m = and_left (edge (graph_of g.output) p.output.0 q.0) (along_outputs g q.0 qs) h in
        let e = wins_step p r q m in
        let t = turned g l p q (after p r q) e in
        let w = wins_on qs (after p r q) (onward p r q (after p r q) e)
        (ap (λ (k : OutState). along_outputs g k.0 qs) t.joined.output
        ∙ and_right (edge (graph_of g.output) p.output.0 q.0) (along_outputs g q.0 qs) h) in
        (w.0, ap (play_on g l qs) e ∙ w.1)

    -- The theorem over plays: begun with an initial output and stepped with moves, a play against a table that wins is never refused, and the positions that
    -- it passes are a walk of that table from a first configuration.
    wins_play : (o : OutState) (qs : List OutState) → begins (graph_of g.output) o.0 ≡ true → along_outputs g o.0 qs ≡ true → PanelRan g l o qs
    wins_play o qs b h =
        let e = wins_begin o b in
        let s = began g l o (opened o) e in
        let first = (faithful g l).begins o (opened o) e in
        let w = wins_on qs (opened o) (record { origin = configuration (opened o); first = first; walk = stay })
        (ap (λ (k : OutState). along_outputs g k.0 qs) s.joined.output ∙ h) in
        ran_from o qs (opened o) w.0 e w.1

    -- What demand 3 says of cycles holds of what is played: where it comes back to a position, the positions that it passed break a requirement.
    pub cycle_breaks : (o : OutState) (qs : List OutState) (p : Position) → play g l o qs ≡ Ok p
        → (q : OutState) (ks : List OutState) → play_on g l (q ∷ ks) (Ok p) ≡ Ok p
        → any_of (λ x. breaks x (map configuration (trail_on g l (q ∷ ks) (Ok p)))) (play_of g).requirements ≡ true
    unfolding play_on trail_on position_of answer_after configurations
    cycle_breaks o qs p e q ks back = go (panel_step g l p q) refl back
      where
        go : (x : Played) → panel_step g l p q ≡ x → play_on g l ks x ≡ Ok p
            → any_of (λ y. breaks y (map configuration (p ∷ trail_on g l ks (panel_step g l p q)))) (play_of g).requirements ≡ true
        go (Ok r) d h =
            let w = walk_of ks r p h in
            let cycle : Cycle (EnvironmentFirst (play_of g) (environment_of g l)) (EnvironmentTurn (play_of g) (environment_of g l)) = record {
              at = configuration p;
              next = configuration r;
              last = configuration p;
              turn = (faithful g l).turns p q r d;
              rest = w.walk;
              back = refl;
              reachable = reached o qs p e;
            } in
            ap (λ (x : Played). any_of (λ y. breaks y (map configuration (p ∷ trail_on g l ks x))) (play_of g).requirements) d
            ∙ ap (λ (cs : List Configuration). any_of (λ y. breaks y (configuration p ∷ cs)) (play_of g).requirements) (sym w.passes)
            ∙ W.rounds cycle
        go (Err n) d h = absurd (let z : ◌≡◌ {A = ℕ} 0 1 = cc (ended g l ks n) in omega arith)

-- The solver's front: where the verdict names the environment, its table's entries are such a table.
pub solved_play : (g : Game) → acceptance g ≡ accepted → verdict (separated_of g) ≡ false
    → (o : OutState) (qs : List OutState) → begins (graph_of g.output) o.0 ≡ true → along_outputs g o.0 qs ≡ true
    → PanelRan g (environment_entries (separated_of g)) o qs
unfolding panel_fitting
solved_play g a v =
    wins_play g (environment_entries (separated_of g)) a
    (eq-eqb (length (environment_entries (separated_of g))) (length (environment_entries (separated_of g))) refl)
    (environment_holds (play_of g) (environment_of g (environment_entries (separated_of g))) (demand_three_environment g a v))
