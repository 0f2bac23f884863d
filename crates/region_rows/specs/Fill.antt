-- The order in which the region's rows are filled: a component after those that it reaches.
--
--   RowReady g s x i         == scratch s holds what the row of input i is worked out from, x being the states in nontrivial components
--   Inside g left            == the members of left are inputs of g
--   Descending g left d      == d has come down to an input of left, and looked at all below it but the rest of d
--   Bottom g left i          == i is an input of left that reaches none of these but those of its own component
--   RowsPut n a y s t        == scratch t is s with the region's row y for the inputs of a, of n inputs
--   Filling g x s left       == the rows of the inputs outside left stand in s, and those inputs reach none of left
--   PastKept g s t           == scratch t is as long as s, and the sets past those that are kept are the same
use Rattle.std.specs.Prelude.{ℕ, ◌<◌, ◌≡◌, true, false, List, length, drop}
use Rattle.bits.specs.Member.{has}
use Rattle.sets.specs.Words.{bits_of, sets_in}
use Rattle.graphs.specs.Closure.{reaches}
use Rattle.game.specs.declared.Game.{Game}
use Rattle.game.specs.Fits.{Fits}
use Rattle.play.specs.Play.{graph_of, separated_of}
use Rattle.scratch.specs.declared.Nontrivial.{Nontrivial}
use Rattle.scratch.specs.Scratch.{scratch_sets}
use Rattle.scratch.specs.Stored.{in_reach_at, row_at, out_reach_at, stored_row, NontrivialOf, Laid}
use Rattle.region_rows.specs.declared.Descent.{Descent}

pub record RowReady (g : Game) (s : List ℕ) (x : Nontrivial) (i : ℕ) : Type 0 where
  pub fits : Fits g
  pub laid : Laid g s
  pub nontrivial : NontrivialOf g x
  pub here : i < g.input.states
  pub below : (j : ℕ) → reaches (graph_of g.input) i j ≡ true → reaches (graph_of g.input) j i ≡ false
      → row_at (sets_in s) g.input.states j ≡ stored_row (separated_of g) j

pub record Inside (g : Game) (left : ℕ) : Type 0 where
  pub below : (j : ℕ) → has left j ≡ true → j < g.input.states

pub record Descending (g : Game) (left : ℕ) (d : Descent) : Type 0 where
  pub here : has left d.at.0 ≡ true
  pub inside : (t : ℕ) → has (bits_of d.rest.0) t ≡ true → (has left t ≡ true) × (reaches (graph_of g.input) d.at.0 t ≡ true)
  pub passed : (t : ℕ) → has left t ≡ true → reaches (graph_of g.input) d.at.0 t ≡ true → has (bits_of d.rest.0) t ≡ false
      → reaches (graph_of g.input) t d.at.0 ≡ true

pub record Bottom (g : Game) (left i : ℕ) : Type 0 where
  pub here : has left i ≡ true
  pub alone : (t : ℕ) → has left t ≡ true → reaches (graph_of g.input) i t ≡ true → reaches (graph_of g.input) t i ≡ true

pub record RowsPut (n a y : ℕ) (s t : List ℕ) : Type 0 where
  pub long : length t ≡ length s
  pub inputs : (i : ℕ) → i < n → in_reach_at (sets_in t) i ≡ in_reach_at (sets_in s) i
  pub here : (j : ℕ) → has a j ≡ true → row_at (sets_in t) n j ≡ y
  pub others : (j : ℕ) → has a j ≡ false → row_at (sets_in t) n j ≡ row_at (sets_in s) n j
  pub outputs : (o : ℕ) → out_reach_at (sets_in t) n o ≡ out_reach_at (sets_in s) n o
  pub rest : (m : ℕ) → drop (scratch_sets n m) (sets_in t) ≡ drop (scratch_sets n m) (sets_in s)

pub record Filling (g : Game) (x : Nontrivial) (s : List ℕ) (left : ℕ) : Type 0 where
  pub fits : Fits g
  pub laid : Laid g s
  pub nontrivial : NontrivialOf g x
  pub inside : Inside g left
  pub stands : (j : ℕ) → j < g.input.states → has left j ≡ false → row_at (sets_in s) g.input.states j ≡ stored_row (separated_of g) j
  pub closed : (j t : ℕ) → has left j ≡ false → reaches (graph_of g.input) j t ≡ true → has left t ≡ false

pub record PastKept (g : Game) (s t : List ℕ) : Type 0 where
  pub long : length t ≡ length s
  pub rest : drop (scratch_sets g.input.states g.output.states) (sets_in t) ≡ drop (scratch_sets g.input.states g.output.states) (sets_in s)
