-- What an answer against a panel's table says: where it gives a position, every test was passed; and the other way round.
--
--   Began g l o p     == p is what the table's start makes with output o, and every test of begin holds
--   Turned g l p q r  == r is what the table's row at p makes with output q, and every test of step holds
use Prim.Native.Nat.{ℕ}
use mathlib.Core.Path.{◌≡◌, refl, sym, ◌∙◌}
use mathlib.Core.Bool.{true, ◌&&◌}
use mathlib.Core.List.{List}
use Rattle.finite.proofs.Truth.{and_intro}
use Rattle.graphs.specs.Graph.{edge, begins}
use Rattle.arena.specs.Arena.{arena_of}
use Rattle.arena.specs.Table.{Names}
use Rattle.arena.specs.Play.{EnvironmentFirst, EnvironmentTurn}
use Rattle.game.specs.declared.OutState.{OutState}
use Rattle.game.specs.declared.Game.{Game}
use Rattle.game.specs.Acceptance.{accepted, acceptance}
use Rattle.play.specs.Play.{graph_of, separated_of}
use Rattle.theory.specs.Entries.{environment_counters, environment_table}
use Rattle.demands.specs.Demands.{play_of, environment_of}
use Rattle.player_place.specs.declared.Position.{Position}
use Rattle.player_place.specs.Place.{provided, has_position}
use Rattle.player.specs.Runs.{configuration}
use Rattle.player.proofs.Inverse.{provided_from, accepted_from}
use Rattle.panel_place.specs.Picks.{position_with}
use Rattle.panel_place.proofs.Picks.{picked, picks_some, Joined, joined_from}
use Rattle.panel_player.specs.Panel.{
  panel_fitting,
  start_move,
  row_move,
  first_move,
  first_place,
  next_move,
  next_place,
  panel_first,
  panel_begin,
  panel_next,
  panel_step,
}
use Rattle.panel_player.specs.Plays.{move_to, Faithful, Playable}
use Rattle.panel_player.proofs.Answers.{first_at, begin_at, next_at, step_at, pick_accepted, play_accepted}
use Rattle.std.specs.declared.result.Result.TheVariants.{Ok}
use Rattle.game.specs.declared.Refusal.TheVariants.{NotAllowed, OtherTable}

module _ (g : Game) (l : List ℕ) where
  pub record Began (o : OutState) (p : Position) : Type 0 where
    pub accepted : acceptance g ≡ accepted
    pub fits : panel_fitting g l ≡ true
    pub opens : begins (graph_of g.output) o.0 ≡ true
    pub joined : Joined o (start_move g l) p

  pub began : (o : OutState) (p : Position) → panel_begin g l o ≡ Ok p → Began o p
  unfolding panel_begin first_place
  began o p e =
      let a = accepted_from (acceptance g) (first_place g l o) p e in
      let start = position_with o (start_move g l) in
      let f = provided_from (panel_fitting g l) OtherTable (provided (begins (graph_of g.output) o.0) NotAllowed start) p a.1 in
      let b = provided_from (begins (graph_of g.output) o.0) NotAllowed start p f.1 in
      record { accepted = a.0; fits = f.0; opens = b.0; joined = joined_from o (start_move g l) p b.1 }

  pub record Turned (p : Position) (q : OutState) (r : Position) : Type 0 where
    pub accepted : acceptance g ≡ accepted
    pub there : (panel_fitting g l && has_position g (environment_counters (separated_of g)) p) ≡ true
    pub move : edge (graph_of g.output) p.output.0 q.0 ≡ true
    pub joined : Joined q (row_move g l p) r

  pub turned : (p : Position) (q : OutState) (r : Position) → panel_step g l p q ≡ Ok r → Turned p q r
  unfolding panel_step next_place
  turned p q r e =
      let there = panel_fitting g l && has_position g (environment_counters (separated_of g)) p in
      let a = accepted_from (acceptance g) (next_place g l p q) r e in
      let row = position_with q (row_move g l p) in
      let f = provided_from there OtherTable (provided (edge (graph_of g.output) p.output.0 q.0) NotAllowed row) r a.1 in
      let b = provided_from (edge (graph_of g.output) p.output.0 q.0) NotAllowed row r f.1 in
      record { accepted = a.0; there = f.0; move = b.0; joined = joined_from q (row_move g l p) r b.1 }

  first_of : (o : OutState) (p : Position) → panel_begin g l o ≡ Ok p → EnvironmentFirst (play_of g) (environment_of g l) (configuration p)
  unfolding play_of arena_of separated_of environment_of environment_table configuration start_move
  first_of o p e =
      let v = began o p e in
      record {
        start = picked (environment_counters (separated_of g)) (begins (graph_of g.input)) (environment_of g l).start _ v.joined.move;
        opening = rw v.joined.output v.opens;
      }

  turn_of : (p : Position) (q : OutState) (r : Position) → panel_step g l p q ≡ Ok r
      → EnvironmentTurn (play_of g) (environment_of g l) (configuration p) (configuration r)
  unfolding play_of arena_of separated_of environment_of environment_table configuration row_move
  turn_of p q r e =
      let v = turned p q r e in
      record {
        step =
            picked (environment_counters (separated_of g)) (edge (graph_of g.input) p.input.0)
            ((environment_of g l).step p.counter p.input.0 p.output.0) _ v.joined.move;
        reply = rw v.joined.output v.move;
      }

  told_first_lem : (o : OutState) (p : Position) → panel_begin g l o ≡ Ok p → panel_first g l ≡ Ok (move_to p)
  unfolding panel_first move_to
  told_first_lem o p e =
      let v = began o p e in
      sym (first_at g l (start_move g l) v.fits refl ∙ pick_accepted (first_move g l) v.accepted) ∙ v.joined.move

  told_next : (p : Position) (q : OutState) (r : Position) → panel_step g l p q ≡ Ok r → panel_next g l p ≡ Ok (move_to r)
  unfolding panel_next move_to
  told_next p q r e =
      let v = turned p q r e in
      sym (next_at g l p (row_move g l p) v.there refl ∙ pick_accepted (next_move g l p) v.accepted) ∙ v.joined.move

  pub faithful : Faithful g l
  faithful = record { begins = first_of; turns = turn_of; told_first = told_first_lem; told = told_next }

  -- the other way round
  module _ (a : acceptance g ≡ accepted) (f : panel_fitting g l ≡ true) where
    start_of_lem : (p : Position) → EnvironmentFirst (play_of g) (environment_of g l) (configuration p) → start_move g l ≡ Ok (move_to p)
    unfolding play_of arena_of separated_of environment_of environment_table configuration start_move move_to
    start_of_lem p E =
        picks_some (environment_counters (separated_of g)) (begins (graph_of g.input)) (environment_of g l).start p.counter p.input.0 E.start

    begin_of : (p : Position) → EnvironmentFirst (play_of g) (environment_of g l) (configuration p) → panel_begin g l p.output ≡ Ok p
    unfolding play_of arena_of separated_of configuration panel_begin move_to position_with
    begin_of p E =
        sym
        (begin_at g l p.output f E.opening (Ok (move_to p)) (Ok p) (sym (start_of_lem p E)) refl
        ∙ play_accepted (first_place g l p.output) a)

    row_of : (p r : Position) → EnvironmentTurn (play_of g) (environment_of g l) (configuration p) (configuration r) → row_move g l p ≡ Ok (move_to r)
    unfolding play_of arena_of separated_of environment_of environment_table configuration row_move move_to
    row_of p r E =
        picks_some (environment_counters (separated_of g)) (edge (graph_of g.input) p.input.0)
        ((environment_of g l).step p.counter p.input.0 p.output.0) r.counter r.input.0 E.step

    step_of : (p r : Position) → has_position g (environment_counters (separated_of g)) p ≡ true
        → EnvironmentTurn (play_of g) (environment_of g l) (configuration p) (configuration r) → panel_step g l p r.output ≡ Ok r
    unfolding play_of arena_of separated_of configuration panel_step move_to position_with
    step_of p r h E =
        sym
        (step_at g l p r.output (and_intro f h) E.reply (Ok (move_to r)) (Ok r) (sym (row_of p r E)) refl
        ∙ play_accepted (next_place g l p r.output) a)

    tells_first_lem : (c s : ℕ) → Names (environment_of g l).memories (play_of g).in_initial (environment_of g l).start c s
        → panel_first g l ≡ Ok (record { input = record { 0 = s }; counter = c })
    unfolding play_of arena_of separated_of environment_of environment_table start_move panel_first
    tells_first_lem c s n =
        sym (first_at g l (start_move g l) f refl ∙ pick_accepted (first_move g l) a)
        ∙ picks_some (environment_counters (separated_of g)) (begins (graph_of g.input)) (environment_of g l).start c s n

    tells_next : (p : Position) → has_position g (environment_counters (separated_of g)) p ≡ true
        → (c s : ℕ)
        → Names (environment_of g l).memories ((play_of g).in_move p.input.0) ((environment_of g l).step p.counter p.input.0 p.output.0) c s
        → panel_next g l p ≡ Ok (record { input = record { 0 = s }; counter = c })
    unfolding play_of arena_of separated_of environment_of environment_table row_move panel_next
    tells_next p h c s n =
        sym (next_at g l p (row_move g l p) (and_intro f h) refl ∙ pick_accepted (next_move g l p) a)
        ∙ picks_some (environment_counters (separated_of g)) (edge (graph_of g.input) p.input.0)
        ((environment_of g l).step p.counter p.input.0 p.output.0) c s n

    pub playable : Playable g l
    playable = record { tells_first = tells_first_lem; tells = tells_next; begins = begin_of; turns = step_of }
