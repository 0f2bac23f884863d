-- A panel's table played against, step by step. The panel's move is told first, then the output is picked.
--
--   panel_fitting g l     == the list l has the length of a panel's table
--   start_move g l        == the move that the start of the table l names
--   panel_row_entry g l p  == the entry of the row at position p
--   row_move g l p        == the move that it names
--   first_move g l        == the answer to first, for an accepted game
--   first_place g l o     == the answer to begin with output o, for an accepted game
--   next_move g l p       == the answer to next at position p, for an accepted game
--   next_place g l p q    == the answer to step from position p with output q, for an accepted game
--   pick_after a m        == m where a is accepted; else the refusal
--   panel_first g l, panel_begin g l o, panel_next g l p, panel_step g l p q    == the answers to first, begin, next and step
--   start_names g l, row_names g l p    == the start, and the row at position p, name a counter in range and an input that is initial, a move
--   panel_first_tests g l, panel_begin_tests g l o, panel_next_tests g l p, panel_step_tests g l p q    == their tests in order, under their numbers
--   Picks ts a r         == r is the answer a, and its number that of the tests ts
use Rattle.std.specs.Prelude.{ℕ, ◌+◌, ◌*◌, ◌≡◌, Bool, ◌&&◌, List, [], ◌∷◌, ◌++◌, eqb, length, get_or}
use Rattle.graphs.specs.Graph.{edge, begins}
use Rattle.game.specs.declared.OutState.{OutState}
use Rattle.game.specs.declared.Game.{Game}
use Rattle.game.specs.Acceptance.{Acceptance}
use Rattle.game.specs.Acceptance.{acceptance}
use Rattle.game.specs.Numbers.{first_of, game_tests}
use Rattle.play.specs.Play.{graph_of, separated_of}
use Rattle.theory.specs.Entries.{none_entry, environment_counters, environment_entries}
use Rattle.demands.specs.Demands.{environment_of}
use Rattle.player_place.specs.declared.Position.{Position}
use Rattle.player_place.specs.Played.{Played}
use Rattle.player_place.specs.Place.{provided, names, has_position}
use Rattle.player.specs.Player.{after_acceptance}
use Rattle.panel_place.specs.Picked.{Picked}
use Rattle.game.specs.declared.Refusal.TheVariants.{NotAllowed, OtherTable}
use Rattle.panel_place.specs.Picks.{granted, picks, position_with, panel_number}
use Rattle.std.specs.declared.result.Result.TheVariants.{Ok, Err}

-- as for a player: "16 table not of the controller's length, or a place the game lacks" (SPEC 10.2, 10.3)

unfoldable pub panel_fitting : Game → List ℕ → Bool
panel_fitting g l = eqb (length l) (length (environment_entries (separated_of g)))

-- "A panel table .. has one start, giving memory and an initial input" (SPEC 2.3)
unfoldable pub start_move : Game → List ℕ → Picked
start_move g l = picks (environment_counters (separated_of g)) (begins (graph_of g.input)) (environment_of g l).start

-- "Panel: one start entry, then rows by input, counter, output" (SPEC 7.3)
unfoldable pub panel_row_entry : Game → List ℕ → Position → ℕ
panel_row_entry g l p = get_or l (1 + ((p.input.0 * environment_counters (separated_of g) + p.counter) * g.output.states + p.output.0)) none_entry

-- "its step gives memory and input move from memory, input and output" (SPEC 2.3)
unfoldable pub row_move : Game → List ℕ → Position → Picked
row_move g l p =
    picks (environment_counters (separated_of g)) (edge (graph_of g.input) p.input.0) ((environment_of g l).step p.counter p.input.0 p.output.0)

unfoldable pub first_move : Game → List ℕ → Picked
first_move g l = granted (panel_fitting g l) OtherTable (start_move g l)

-- "the panel's start with any initial output": 14 where it is not initial (SPEC 10.3)
unfoldable pub first_place : Game → List ℕ → OutState → Played
first_place g l o = provided (panel_fitting g l) OtherTable (provided (begins (graph_of g.output) o.0) NotAllowed (position_with o (start_move g l)))

unfoldable pub next_move : Game → List ℕ → Position → Picked
next_move g l p = granted (panel_fitting g l && has_position g (environment_counters (separated_of g)) p) OtherTable (row_move g l p)

-- "an input move, then an output move, one by the table's step, which also gives the memory, the other any move": 14 where it is none (SPEC 10.3)
unfoldable pub next_place : Game → List ℕ → Position → OutState → Played
next_place g l p q =
    provided (panel_fitting g l && has_position g (environment_counters (separated_of g)) p) OtherTable
    (provided (edge (graph_of g.output) p.output.0 q.0) NotAllowed (position_with q (row_move g l p)))

-- "Whoever drives a player, after 1 to 7" (SPEC 9.1)
unfoldable pub pick_after : Acceptance → Picked → Picked
pick_after (Ok u) m = m
pick_after (Err n) m = Err n

-- SPEC 10.3
unfoldable pub panel_first : Game → List ℕ → Picked
panel_first g l = pick_after (acceptance g) (first_move g l)

-- SPEC 10.3
unfoldable pub panel_begin : Game → List ℕ → OutState → Played
panel_begin g l o = after_acceptance (acceptance g) (first_place g l o)

-- SPEC 10.3
unfoldable pub panel_next : Game → List ℕ → Position → Picked
panel_next g l p = pick_after (acceptance g) (next_move g l p)

-- SPEC 10.3
unfoldable pub panel_step : Game → List ℕ → Position → OutState → Played
panel_step g l p q = after_acceptance (acceptance g) (next_place g l p q)

-- "15 the row is none, or names a counter out of range or an output that is no move (at the start, not initial)", here an input (SPEC 10.2)
unfoldable pub start_names : Game → List ℕ → Bool
start_names g l = names (environment_counters (separated_of g)) (begins (graph_of g.input)) (environment_of g l).start

unfoldable pub row_names : Game → List ℕ → Position → Bool
row_names g l p =
    names (environment_counters (separated_of g)) (edge (graph_of g.input) p.input.0) ((environment_of g l).step p.counter p.input.0 p.output.0)

-- "Whoever drives a player, after 1 to 7: 16 ..; 14 ..; 15 .." (SPEC 9.1, 10.3)
unfoldable pub panel_first_tests : Game → List ℕ → List (ℕ × Bool)
panel_first_tests g l =
    game_tests g
    ++ (16, panel_fitting g l)
    ∷ (15, start_names g l)
    ∷ []

-- SPEC 9.1, 10.3
unfoldable pub panel_begin_tests : Game → List ℕ → OutState → List (ℕ × Bool)
panel_begin_tests g l o =
    game_tests g
    ++ (16, panel_fitting g l)
    ∷ (14, begins (graph_of g.output) o.0)
    ∷ (15, start_names g l)
    ∷ []

-- SPEC 9.1, 10.3
unfoldable pub panel_next_tests : Game → List ℕ → Position → List (ℕ × Bool)
panel_next_tests g l p =
    game_tests g
    ++ (16, panel_fitting g l && has_position g (environment_counters (separated_of g)) p)
    ∷ (15, row_names g l p)
    ∷ []

-- SPEC 9.1, 10.3
unfoldable pub panel_step_tests : Game → List ℕ → Position → OutState → List (ℕ × Bool)
panel_step_tests g l p q =
    game_tests g
    ++ (16, panel_fitting g l && has_position g (environment_counters (separated_of g)) p)
    ∷ (14, edge (graph_of g.output) p.output.0 q.0)
    ∷ (15, row_names g l p)
    ∷ []

pub record Picks (ts : List (ℕ × Bool)) (a r : Picked) : Type 0 where
  pub answer : r ≡ a
  pub number : panel_number r ≡ first_of ts
