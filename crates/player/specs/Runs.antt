-- Runs of a player: begun once and stepped with one input after the other.
--
--   configuration p     == the position as a configuration of the play
--   along g i js        == the inputs js are moves, the first from input i
--   next g l a j        == the answer to input j after the answer a: a refusal ends the run
--   run_of g l js a      == the player's last answer, from the answer a on, over the inputs js
--   position_of a        == the position that the answer a gives, if it gives one
--   trail_of g l js a    == the positions that it passes
--   run g l i js        == the last answer of a player begun with input i and stepped with js
--   trail g l i js      == the positions that it passes
--   PlayerReached g l p == the position is a reachable configuration of the table
--   Ran g l i js        == the run is never refused, and its positions are a walk of the table from a first configuration
use Rattle.std.specs.Prelude.{ℕ, ◌≡◌, Bool, true, ◌&&◌, List, [], ◌∷◌, ◌++◌, map}
use Rattle.graphs.specs.Graph.{edge}
use Rattle.graphs.specs.Walk.{Walk, passed}
use Rattle.arena.specs.Play.{Configuration, ControllerFirst, ControllerTurn, Reachable}
use Rattle.game.specs.declared.InState.{InState}
use Rattle.game.specs.declared.Game.{Game}
use Rattle.play.specs.Play.{graph_of}
use Rattle.demands.specs.Demands.{play_of, controller_of}
use Rattle.player_place.specs.declared.Position.{Position}
use Rattle.player_place.specs.Played.{Played}
use Rattle.player.specs.Player.{beginning, stepping}
use Rattle.std.specs.declared.result.Result.TheVariants.{Ok, Err}

-- "A configuration is input, output and memory." "its counters being the memory" (SPEC 2.4)

unfoldable pub configuration : Position → Configuration
configuration p = record { input = p.input.0; output = p.output.0; memory = p.counter }

unfoldable pub along : Game → ℕ → List InState → Bool
along g i [] = true
along g i (j ∷ js) = edge (graph_of g.input) i j.0 && along g j.0 js

-- the answer to one input more
unfoldable pub next : Game → List ℕ → Played → InState → Played
next g l (Ok p) j = stepping g l p j
next g l (Err n) j = Err n

unfoldable pub run_of : Game → List ℕ → List InState → Played → Played
run_of g l [] a = a
run_of g l (j ∷ js) a = run_of g l js (next g l a j)

-- the position that an answer gives
unfoldable pub position_of : Played → List Position
position_of (Ok p) = p ∷ []
position_of (Err n) = []

unfoldable pub trail_of : Game → List ℕ → List InState → Played → List Position
trail_of g l [] a = position_of a
trail_of g l (j ∷ js) a = position_of a ++ trail_of g l js (next g l a j)

unfoldable pub run : Game → List ℕ → InState → List InState → Played
run g l i js = run_of g l js (beginning g l i)

unfoldable pub trail : Game → List ℕ → InState → List InState → List Position
trail g l i js = trail_of g l js (beginning g l i)

-- "A configuration is reachable when a walk from a first one ends in it" (SPEC 2.6)
abbrev pub PlayerReached : Game → List ℕ → Position → Type 0
PlayerReached g l p = Reachable (ControllerFirst (play_of g) (controller_of g l)) (ControllerTurn (play_of g) (controller_of g l)) (configuration p)

pub record Ran (g : Game) (l : List ℕ) (i : InState) (js : List InState) : Type 0 where
  pub first : Position
  pub last : Position
  pub starts : ControllerFirst (play_of g) (controller_of g l) (configuration first)
  pub ends : run g l i js ≡ Ok last
  pub walk : Walk (ControllerTurn (play_of g) (controller_of g l)) (configuration first) (configuration last)
  pub passes : passed walk ≡ map configuration (trail g l i js)
