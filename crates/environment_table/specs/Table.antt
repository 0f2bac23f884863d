-- The environment's table as it is filled, row after row in any order.
--
--   entries_of g                 == the entries of the environment's table
--   environment_place M O i h o  == the place of the row of input i, counter h and output o, of M counters and O outputs
--   Known g s inner             == the game is accepted, scratch s holds its region, and inner are the inputs in nontrivial components
--   Solved g s inner n          == so it is, and n entries hold the table
--   Roomy g counters n          == the table has so many counters, and fits n entries
--   EnvironmentLayout N M O z   == z is the layout of the rows of N inputs, M counters and O outputs
--   EnvironmentFilled g P l m   == from l to m rows were written, those with P among them
--   Pushes g which o refused    == the rows of an input of `which` and o hold its lowest move into the set `refused`; the counter stays
use Rattle.std.specs.Prelude.{ℕ, ◌+◌, ◌*◌, ◌<◌, ◌≤◌, ◌≡◌, true, List, length, get_or}
use Rattle.finite.specs.Bounded.{least}
use Rattle.bits.specs.Member.{has, both, sets_meet}
use Rattle.sets.specs.Words.{capacity, sets_in}
use Rattle.game.specs.declared.Game.{Game}
use Rattle.game.specs.Acceptance.{accepted, acceptance}
use Rattle.play.specs.Play.{separated_of}
use Rattle.arena.specs.Table.{gives}
use Rattle.theory.specs.Choice.{environment_row}
use Rattle.theory.specs.Entries.{environment_counters, environment_entries}
use Rattle.scratch.specs.Stored.{Ready}
use Rattle.table_counters.specs.Counters.{most_counters}
use Rattle.table_filling.specs.Grows.{Right, Grows}
use Rattle.table_layout.specs.declared.Layout.{Layout}

unfoldable pub entries_of : Game → List ℕ
entries_of g = environment_entries (separated_of g)

-- "Panel: one start entry, then rows by input, counter, output" (SPEC 7.3)
unfoldable pub environment_place : ℕ → ℕ → ℕ → ℕ → ℕ → ℕ
environment_place M O i h o = 1 + ((i * M + h) * O + o)

pub record Known (g : Game) (s : List ℕ) (inner : ℕ) : Type 0 where
  pub accepted : acceptance g ≡ accepted
  pub ready : Ready g s inner

pub record Solved (g : Game) (s : List ℕ) (inner n : ℕ) : Type 0 where
  pub known : Known g s inner
  pub room : length (environment_entries (separated_of g)) ≤ n

pub record Roomy (g : Game) (M n : ℕ) : Type 0 where
  pub accepted : acceptance g ≡ accepted
  pub counters : M ≡ environment_counters (separated_of g)
  pub few : M ≤ most_counters
  pub inputs : g.input.states ≤ capacity
  pub outputs : g.output.states ≤ capacity
  pub room : length (entries_of g) ≤ n

-- "Panel: one start entry, then rows by input, counter, output" (SPEC 7.3)
pub record EnvironmentLayout (N M O : ℕ) (z : Layout) : Type 0 where
  pub base : z.base ≡ 1
  pub states : z.states ≡ N
  pub counters : z.counters ≡ M
  pub width : z.width ≡ O

pub record EnvironmentFilled (g : Game) (P : ℕ → ℕ → ℕ → Type 0) (l m : List ℕ) : Type 0 where
  pub grows : Grows (entries_of g) l m
  pub rows : (i h o : ℕ) → i < g.input.states → h < environment_counters (separated_of g) → o < g.output.states → P i h o
      → Right (entries_of g) m (environment_place (environment_counters (separated_of g)) g.output.states i h o)

-- "i's component not stayable: the lowest move to a j for which no output move from o makes a won position; h stays." (SPEC 6.5)
pub record Pushes (g : Game) (which o refused : ℕ) : Type 0 where
  pub output : o < g.output.states
  pub below : (i : ℕ) → has which i ≡ true → i < g.input.states
  pub move : (i : ℕ) → has which i ≡ true → sets_meet capacity (get_or (sets_in g.input.moves) i 0) refused ≡ true
  pub row : (i h : ℕ) → has which i ≡ true
      → environment_row (separated_of g) i h o ≡ gives h (least capacity (both (get_or (sets_in g.input.moves) i 0) refused))
