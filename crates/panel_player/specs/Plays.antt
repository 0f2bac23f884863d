-- Plays against a panel's table: begun once and stepped with one output after the other.
--
--   move_to p            == the panel's move to the input and the counter of position p
--   Faithful g l        == what is played is what the table does: first configurations and turns of it, by the moves that are told
--   Playable g l        == and whatever the table does can be played
--   along_outputs g o qs == the outputs qs are moves, the first from output o
--   answer_after g l a q == the answer to output q after the answer a: a refusal ends the play
--   play_on g l qs a     == the last answer, from the answer a on, over the outputs qs
--   trail_on g l qs a    == the positions that it passes
--   play g l o qs       == the last answer of a play begun with output o and stepped with qs
--   panel_trail g l o qs == the positions that it passes
--   PanelReached g l p  == the position is a reachable configuration of the table
--   PanelRan g l o qs   == the play is never refused, and its positions are a walk of the table from a first configuration
use Rattle.std.specs.Prelude.{ℕ, ◌≡◌, Bool, true, ◌&&◌, List, [], ◌∷◌, ◌++◌, map}
use Rattle.graphs.specs.Graph.{edge}
use Rattle.graphs.specs.Walk.{Walk, passed}
use Rattle.arena.specs.Table.{Names}
use Rattle.arena.specs.Play.{EnvironmentFirst, EnvironmentTurn, Reachable}
use Rattle.game.specs.declared.OutState.{OutState}
use Rattle.game.specs.declared.Game.{Game}
use Rattle.play.specs.Play.{graph_of, separated_of}
use Rattle.theory.specs.Entries.{environment_counters}
use Rattle.demands.specs.Demands.{play_of, environment_of}
use Rattle.player_place.specs.declared.Position.{Position}
use Rattle.player_place.specs.Place.{has_position}
use Rattle.player_place.specs.Played.{Played}
use Rattle.player.specs.Runs.{configuration, position_of}
use Rattle.panel_place.specs.declared.PanelMove.{PanelMove}
use Rattle.panel_player.specs.Panel.{panel_first, panel_begin, panel_next, panel_step}
use Rattle.std.specs.declared.result.Result.TheVariants.{Ok, Err}

unfoldable pub move_to : Position → PanelMove
move_to p = record { input = p.input; counter = p.counter }

-- Whatever the table: "The first ones are .. the panel's start with any initial output", "A turn makes the next: an input move, then an output move, one by
-- the table's step, which also gives the memory, the other any move". (SPEC 10.3)
pub record Faithful (g : Game) (l : List ℕ) : Type 0 where
  pub begins : (o : OutState) (p : Position) → panel_begin g l o ≡ Ok p → EnvironmentFirst (play_of g) (environment_of g l) (configuration p)
  pub turns : (p : Position) (q : OutState) (r : Position) → panel_step g l p q ≡ Ok r
      → EnvironmentTurn (play_of g) (environment_of g l) (configuration p) (configuration r)
  -- the output is picked having seen the input
  pub told_first : (o : OutState) (p : Position) → panel_begin g l o ≡ Ok p → panel_first g l ≡ Ok (move_to p)
  pub told : (p : Position) (q : OutState) (r : Position) → panel_step g l p q ≡ Ok r → panel_next g l p ≡ Ok (move_to r)

-- For a table of the panel's length in an accepted game. A move is told wherever the table names one, also where the output is stuck.
pub record Playable (g : Game) (l : List ℕ) : Type 0 where
  pub tells_first : (c s : ℕ) → Names (environment_of g l).memories (play_of g).in_initial (environment_of g l).start c s
      → panel_first g l ≡ Ok (record { input = record { 0 = s }; counter = c })
  pub tells : (p : Position) → has_position g (environment_counters (separated_of g)) p ≡ true
      → (c s : ℕ)
      → Names (environment_of g l).memories ((play_of g).in_move p.input.0) ((environment_of g l).step p.counter p.input.0 p.output.0) c s
      → panel_next g l p ≡ Ok (record { input = record { 0 = s }; counter = c })
  pub begins : (p : Position) → EnvironmentFirst (play_of g) (environment_of g l) (configuration p) → panel_begin g l p.output ≡ Ok p
  pub turns : (p r : Position) → has_position g (environment_counters (separated_of g)) p ≡ true
      → EnvironmentTurn (play_of g) (environment_of g l) (configuration p) (configuration r) → panel_step g l p r.output ≡ Ok r

unfoldable pub along_outputs : Game → ℕ → List OutState → Bool
along_outputs g o [] = true
along_outputs g o (q ∷ qs) = edge (graph_of g.output) o q.0 && along_outputs g q.0 qs

unfoldable pub answer_after : Game → List ℕ → Played → OutState → Played
answer_after g l (Ok p) q = panel_step g l p q
answer_after g l (Err n) q = Err n

unfoldable pub play_on : Game → List ℕ → List OutState → Played → Played
play_on g l [] a = a
play_on g l (q ∷ qs) a = play_on g l qs (answer_after g l a q)

unfoldable pub trail_on : Game → List ℕ → List OutState → Played → List Position
trail_on g l [] a = position_of a
trail_on g l (q ∷ qs) a = position_of a ++ trail_on g l qs (answer_after g l a q)

unfoldable pub play : Game → List ℕ → OutState → List OutState → Played
play g l o qs = play_on g l qs (panel_begin g l o)

unfoldable pub panel_trail : Game → List ℕ → OutState → List OutState → List Position
panel_trail g l o qs = trail_on g l qs (panel_begin g l o)

-- "A configuration is reachable when a walk from a first one ends in it" (SPEC 2.6)
abbrev pub PanelReached : Game → List ℕ → Position → Type 0
PanelReached g l p = Reachable (EnvironmentFirst (play_of g) (environment_of g l)) (EnvironmentTurn (play_of g) (environment_of g l)) (configuration p)

pub record PanelRan (g : Game) (l : List ℕ) (o : OutState) (qs : List OutState) : Type 0 where
  pub first : Position
  pub last : Position
  pub starts : EnvironmentFirst (play_of g) (environment_of g l) (configuration first)
  pub ends : play g l o qs ≡ Ok last
  pub walk : Walk (EnvironmentTurn (play_of g) (environment_of g l)) (configuration first) (configuration last)
  pub passes : passed walk ≡ map configuration (panel_trail g l o qs)
