-- The player: a controller's table run step by step.
--
--   sizes_of g                 == how many states g has, and how many counters its controller's table
--   Lent g n ins outs         == n are the sizes of g, and ins and outs the rows of its graphs
--   fitting g l               == the list l has the controller's length
--   begun g l i               == the answer to begin with input i, for an accepted game
--   stepped g l p j           == the answer to step from position p with input j, for an accepted game
--   after_acceptance a p       == p where a is accepted; else the refusal
--   beginning g l i           == the answer to begin
--   stepping g l p j          == the answer to step
--   begin_tests g l i, step_tests g l p j    == their tests under their numbers, in the order in which they are tried
--   Plays ts a r              == r is the answer a, and its number that of the tests ts
--   moved_of p a               == the position after the answer a at position p, and the code: 0 where it moved
--   refusal_of a              == nothing where a is a position, else the refusal
--   Advanced p a q r          == q is that position, and r the refusal of a
use Rattle.std.specs.Prelude.{ℕ, ◌≡◌, Bool, ◌&&◌, List, [], ◌∷◌, ◌++◌, eqb, length}
use Rattle.graphs.specs.Graph.{edge, begins}
use Rattle.game.specs.declared.InState.{InState}
use Rattle.game.specs.declared.Game.{Game}
use Rattle.game.specs.Acceptance.{Acceptance, acceptance, accepted}
use Rattle.game.specs.Numbers.{first_of, game_tests}
use Rattle.play.specs.Play.{graph_of, separated_of}
use Rattle.theory.specs.Entries.{controller_counters, controller_entries}
use Rattle.demands.specs.Demands.{controller_of}
use Rattle.player_place.specs.declared.Position.{Position}
use Rattle.player_place.specs.Place.{provided, arrives, names, player_number, has_position}
use Rattle.player.specs.declared.Moved.{Moved}
use Rattle.player.specs.declared.Sizes.{Sizes}
use Rattle.player_place.specs.Played.{Played}
use Rattle.std.specs.declared.result.Result.TheVariants.{Ok, Err}
use Rattle.game.specs.Refusals.{number}
use Rattle.game.specs.declared.Refusal.TheVariants.{NotAllowed, OtherTable}

abbrev pub sizes_of : Game → Sizes
sizes_of g = record { inputs = g.input.states; outputs = g.output.states; counters = controller_counters (separated_of g) }

pub record Lent (g : Game) (n : Sizes) (ins outs : List ℕ) : Type 0 where
  pub sizes : n ≡ sizes_of g
  pub inputs : ins ≡ g.input.moves
  pub outputs : outs ≡ g.output.moves

-- "16 table not of the controller's length" (SPEC 10.2)
unfoldable pub fitting : Game → List ℕ → Bool
fitting g l = eqb (length l) (length (controller_entries (separated_of g)))

-- "14 first input not initial" (SPEC 10.2)
unfoldable pub begun : Game → List ℕ → InState → Played
begun g l i =
    provided (fitting g l) OtherTable
    (provided (begins (graph_of g.input) i.0) NotAllowed
    (arrives (controller_counters (separated_of g)) (begins (graph_of g.output)) i ((controller_of g l).start i.0)))

-- "or next input not a move" (SPEC 10.2)
unfoldable pub stepped : Game → List ℕ → Position → InState → Played
stepped g l p j =
    provided (fitting g l && has_position g (controller_counters (separated_of g)) p) OtherTable
    (provided (edge (graph_of g.input) p.input.0 j.0) NotAllowed
    (arrives (controller_counters (separated_of g)) (edge (graph_of g.output) p.output.0) j
    ((controller_of g l).step p.counter p.output.0 j.0)))

-- "Whoever drives a player, after 1 to 7" (SPEC 9.1)
unfoldable pub after_acceptance : Acceptance → Played → Played
after_acceptance (Ok u) p = p
after_acceptance (Err r) p = Err r

-- "Beginning is a call of its own: it takes the first input and gives the first place." (SPEC 10.1)
unfoldable pub beginning : Game → List ℕ → InState → Played
beginning g l i = after_acceptance (acceptance g) (begun g l i)

-- "The player keeps its place (input, output, counter) itself, and each accepted input moves that place on." (SPEC 10.1)
unfoldable pub stepping : Game → List ℕ → Position → InState → Played
stepping g l p j = after_acceptance (acceptance g) (stepped g l p j)

-- "Whoever drives a player, after 1 to 7: 16 ..; 14 ..; 15 .." (SPEC 9.1, 10.2)
unfoldable pub begin_tests : Game → List ℕ → InState → List (ℕ × Bool)
begin_tests g l i =
    game_tests g
    ++ (16, fitting g l)
    ∷ (14, begins (graph_of g.input) i.0)
    ∷ (15, names (controller_counters (separated_of g)) (begins (graph_of g.output)) ((controller_of g l).start i.0))
    ∷ []

-- SPEC 9.1, 10.2
unfoldable pub step_tests : Game → List ℕ → Position → InState → List (ℕ × Bool)
step_tests g l p j =
    game_tests g
    ++ (16, fitting g l && has_position g (controller_counters (separated_of g)) p)
    ∷ (14, edge (graph_of g.input) p.input.0 j.0)
    ∷ (15, names (controller_counters (separated_of g)) (edge (graph_of g.output) p.output.0) ((controller_of g l).step p.counter p.output.0 j.0))
    ∷ []

pub record Plays (ts : List (ℕ × Bool)) (a r : Played) : Type 0 where
  pub answer : r ≡ a
  pub number : player_number r ≡ first_of ts

-- "Each returns its number only .. and changes no lent memory or player's place." (SPEC 9.1, 10.2)
unfoldable pub moved_of : Position → Played → Moved
moved_of old (Ok p) = record { at = p; code = 0 }
moved_of old (Err r) = record { at = old; code = number r }

unfoldable pub refusal_of : Played → Acceptance
refusal_of (Ok p) = accepted
refusal_of (Err r) = Err r

-- What the step in place leaves: "each accepted input moves that place on", and a refusal leaves it as it was. (SPEC 10.1)
pub record Advanced (old : Position) (answer : Played) (new : Position) (r : Acceptance) : Type 0 where
  pub position : new ≡ (moved_of old answer).at
  pub refusal : r ≡ refusal_of answer
