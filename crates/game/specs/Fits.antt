-- What an accepted game is, told without its tests.
--
--   GraphFits g              == the states of g are as document 01 asks
--   RequirementFits q a b    == the sets of q are as document 01 asks, with a input and b output states
--   Fits g                   == the whole game is as document 01 asks
use Rattle.std.specs.Prelude.{◌≡◌, true, ℕ, ◌≤◌, ◌<◌, get_or}
use Rattle.sets.specs.Words.{capacity, bits_of, sets_in}
use Rattle.bits.specs.Member.{has}
use Rattle.game.specs.declared.Graph.{Graph}
use Rattle.game.specs.declared.Requirement.{Requirement}
use Rattle.game.specs.declared.Game.{Game}
use Rattle.game.specs.Access.{no_input, no_output, requirement_at}

pub record GraphFits (g : Graph) : Type 0 where
  pub some : 1 ≤ g.states
  pub most : g.states ≤ capacity
  pub initial_below : (s : ℕ) → has (bits_of g.initial) s ≡ true → s < g.states
  pub start : (s : ℕ) × (s < g.states) × (has (bits_of g.initial) s ≡ true)
  pub row_below : (s j : ℕ) → s < g.states → has (get_or (sets_in g.moves) s 0) j ≡ true → j < g.states
  pub row_past : (s : ℕ) → g.states ≤ s → s < capacity → get_or (sets_in g.moves) s 0 ≡ 0

pub record RequirementFits (q : Requirement) (a b : ℕ) : Type 0 where
  pub few_assumed : q.assumed ≤ 4
  pub few_guaranteed : q.guaranteed ≤ 4
  pub assumption_below : (j s : ℕ) → j < q.assumed → has (bits_of (get_or q.assumptions j no_input).0) s ≡ true → s < a
  pub assumption_past : (j : ℕ) → q.assumed ≤ j → j < 4 → bits_of (get_or q.assumptions j no_input).0 ≡ 0
  pub guarantee_below : (j s : ℕ) → j < q.guaranteed → has (bits_of (get_or q.guarantees j no_output).0) s ≡ true → s < b
  pub guarantee_past : (j : ℕ) → q.guaranteed ≤ j → j < 4 → bits_of (get_or q.guarantees j no_output).0 ≡ 0

-- SPEC 1.6
pub record Fits (g : Game) : Type 0 where
  pub input : GraphFits g.input
  pub output : GraphFits g.output
  pub few : g.k ≤ 8
  pub requirement : (r : ℕ) → r < 8 → RequirementFits (requirement_at g r) g.input.states g.output.states
  pub unused : (r : ℕ) → g.k ≤ r → r < 8 → ((requirement_at g r).assumed ≡ 0) × ((requirement_at g r).guaranteed ≡ 0)
