-- The rows of a nontrivial component.
--
--   Whole g c first                 == the set c is the nontrivial component with the number first
--   Ahead g i x                     == x are the inputs in nontrivial components whose number is not below i
--   Leaves g c x                    == the set x has the inputs that moves out of the set c enter
--   lost_in l n inner x o j          == j is in the set x, and (j, o) is not won
--   exits_at moves c out k           == k is in the set c, and a move of k enters the set out
--   pressed_at g first o             == (first, o) is not won, and o has a move
--   leaving_at g first o             == so it is, and the component has a way out
--   touring_at g first o             == so it is, and the component has none
--   Escaped g first l m r           == the rows of all outputs with a way out are written; r is the set of those that tour
use Rattle.std.specs.Prelude.{ℕ, ◌<◌, ◌≡◌, Bool, true, ◌&&◌, not, List, leb, get_or}
use Rattle.bits.specs.Member.{has, pack, sets_meet}
use Rattle.sets.specs.Words.{capacity, sets_in}
use Rattle.graphs.specs.Graph.{stuck}
use Rattle.graphs.specs.Component.{joined, number, nontrivial}
use Rattle.game.specs.declared.Game.{Game}
use Rattle.play.specs.Play.{graph_of, separated_of}
use Rattle.theory.specs.Region.{region}
use Rattle.theory.specs.Choice.{escapes}
use Rattle.graph_components.specs.Component.{enters}
use Rattle.environment_table.specs.Table.{EnvironmentFilled}
use Rattle.environment_table.specs.Reading.{lost_at}

pub record Whole (g : Game) (c k : ℕ) : Type 0 where
  pub below : k < g.input.states
  pub first : number (graph_of g.input) k ≡ k
  pub is_nontrivial : nontrivial (graph_of g.input) k ≡ true
  pub word : c ≡ pack g.input.states (joined (graph_of g.input) k)

pub record Ahead (g : Game) (i x : ℕ) : Type 0 where
  pub is : (a : ℕ) → a < g.input.states → has x a ≡ (nontrivial (graph_of g.input) a && leb i (number (graph_of g.input) a))

pub record Leaves (g : Game) (c x : ℕ) : Type 0 where
  pub entered : (t : ℕ) → has x t ≡ (enters (sets_in g.input.moves) c g.input.states t && not (has c t))

-- "Some move leaves the component to a j with (j, o) not won": such a j is entered (SPEC 6.6)
unfoldable pub lost_in : List ℕ → ℕ → ℕ → ℕ → ℕ → ℕ → Bool
lost_in l n inner x o j = has x j && lost_at l n inner o j

unfoldable pub exits_at : List ℕ → ℕ → ℕ → ℕ → Bool
exits_at moves c out k = has c k && sets_meet capacity (get_or moves k 0) out

-- A row of an output without a move needs no walk.
unfoldable pub pressed_at : Game → ℕ → ℕ → Bool
pressed_at g k o = not (region (separated_of g) k o) && not (stuck (separated_of g).output o)

-- "Some move leaves the component to a j with (j, o) not won: .."; "Otherwise tour the input sets inside the component" (SPEC 6.6, 6.7)
unfoldable pub leaving_at : Game → ℕ → ℕ → Bool
leaving_at g k o = pressed_at g k o && escapes (separated_of g) k o

unfoldable pub touring_at : Game → ℕ → ℕ → Bool
touring_at g k o = pressed_at g k o && not (escapes (separated_of g) k o)

pub record Escaped (g : Game) (k : ℕ) (l m : List ℕ) (r : ℕ) : Type 0 where
  pub filled : EnvironmentFilled g (λ a h b. (joined (graph_of g.input) k a ≡ true) × (leaving_at g k b ≡ true)) l m
  pub tours : r ≡ pack g.output.states (touring_at g k)
