-- Ways out of a component, for outputs that are collected as long as they have the same gates: the states with a move out.
--
--   Gated g first gates over       == with each output of over the component with the number first has a way out, by these gates
--   EscapeFits z rows s inner c x first o r n == c is the component with the number first of a game with these rows of inputs, whose region s holds and whose
--                                     rows are laid out as z says in n entries; moves out of c enter x; o moves to the set r
--   Joins rows z c old gates over o more l m == o, with these gates, came to the outputs with the gates old: more is all of them where the gates are the
--                                     same; else it is o alone, and from l to m the rows of the others outside their gates were written
--   Escape g first o old over gates more l m r == the rows of o with a way out, and those of over, are written but for those of the outputs of more
--                                     outside the gates; r tells whether those of o tour
use Rattle.std.specs.Prelude.{ℕ, ◌<◌, ◌≡◌, Bool, true, false, ◌||◌, List, ◌⊎◌, eqb, get_or}
use Rattle.bits.specs.Member.{has, within}
use Rattle.sets.specs.Words.{sets_in}
use Rattle.graphs.specs.Component.{joined}
use Rattle.game.specs.declared.Game.{Game}
use Rattle.play.specs.Play.{graph_of, separated_of}
use Rattle.theory.specs.Choice.{gate}
use Rattle.table_layout.specs.declared.Layout.{Layout}
use Rattle.table_walks.specs.Staying.{Approaches}
use Rattle.environment_table.specs.Table.{Known, Roomy, EnvironmentLayout, EnvironmentFilled}
use Rattle.environment_table.specs.Pressing.{Whole, Leaves, leaving_at, touring_at}

pub record Gated (g : Game) (k gates over : ℕ) : Type 0 where
  pub members : within gates g.input.states ≡ true
  pub below : (b : ℕ) → has over b ≡ true → b < g.output.states
  pub leaving : (b : ℕ) → has over b ≡ true → leaving_at g k b ≡ true
  pub same : (b : ℕ) → has over b ≡ true → has gates ≡ gate (separated_of g) b k

pub record EscapeFits (z : Layout) (rows s : List ℕ) (inner c x k o r n : ℕ) : Type 0 where
  pub game : Game
  pub layout : EnvironmentLayout game.input.states z.counters game.output.states z
  pub moves : rows ≡ sets_in game.input.moves
  pub known : Known game s inner
  pub roomy : Roomy game z.counters n
  pub whole : Whole game c k
  pub output : o < game.output.states
  pub replies : r ≡ get_or (sets_in game.output.moves) o 0
  pub leaves : Leaves game c x

pub record Joins (rows : List ℕ) (z : Layout) (c old gates over o more : ℕ) (l m : List ℕ) : Type 0 where
  pub each :
      ((old ≡ gates) × ((t : ℕ) → has more t ≡ (has over t || eqb t o)) × (m ≡ l))
      ⊎ (Approaches rows z c old over l m × ((t : ℕ) → has more t ≡ (has 0 t || eqb t o)))

pub record Escape (g : Game) (k o old over gates more : ℕ) (l m : List ℕ) (r : Bool) : Type 0 where
  pub filled :
      EnvironmentFilled g
      (λ a h b. (joined (graph_of g.input) k a ≡ true) × (leaving_at g k b ≡ true) × ((b ≡ o) ⊎ ((has over b ≡ true) × (has old a ≡ false)))
      × ((has more b ≡ false) ⊎ (has gates a ≡ true)))
      l m
  pub gated : Gated g k gates more
  pub tours : r ≡ touring_at g k o
