-- Demands 2 and 3 for a game's records.
--
--   play_of g             == the arena in which the game is played
--   DemandTwo g w        == w marks exactly the won positions
--   controller_of g l     == the list of entries l read as a controller's table of the game
--   environment_of g l    == the same as an environment's table
use Rattle.std.specs.Prelude.{ℕ, ◌<◌, ◌≡◌, Bool, true, List, ◌↔◌}
use Rattle.arena.specs.Arena.{Arena, arena_of}
use Rattle.arena.specs.Table.{ControllerTable, EnvironmentTable}
use Rattle.arena.specs.Win.{Won}
use Rattle.game.specs.declared.Game.{Game}
use Rattle.play.specs.Play.{separated_of}
use Rattle.theory.specs.Entries.{controller_counters, environment_counters, controller_table, environment_table}

unfoldable pub play_of : Game → Arena
play_of g = arena_of (separated_of g)

-- Demand 2: "A position is won when some controller started there makes all reachable rounds meet all requirements.", and those are marked. (SPEC 3.1, 4.5)
pub record DemandTwo (g : Game) (w : ℕ → ℕ → Bool) : Type 0 where
  pub marks : (i o : ℕ) → i < g.input.states → o < g.output.states → (w i o ≡ true) ↔ Won (play_of g) i o

-- "The table handed over is the filled front, read as under Rooms, its counters being the memory." (SPEC 7.2)
unfoldable pub controller_of : Game → List ℕ → ControllerTable
controller_of g l = controller_table g.input.states (controller_counters (separated_of g)) l

-- SPEC 7.3
unfoldable pub environment_of : Game → List ℕ → EnvironmentTable
environment_of g l = environment_table g.output.states (environment_counters (separated_of g)) l
