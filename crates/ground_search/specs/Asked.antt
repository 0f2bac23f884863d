-- What is asked, and requirements told of sets of states.
--
--   PositionAsked g s c i o == scratch s holds the winning region of g, c are the inputs in nontrivial components, and (i, o) is a position of g
--   Staying g i o           == (i, o) is lost, o is not stuck, and i is in a nontrivial component
--   Exits g i x             == x are the states that moves out of the component of i enter
--   missed_in g b r j        == output set j of requirement r misses the set b
--   owed_in g a b r          == requirement r is due in the set a of inputs, and one of its output sets misses b
use Rattle.std.specs.Prelude.{ℕ, ◌<◌, ◌≡◌, Bool, true, false, ◌&&◌, not, List}
use Rattle.bits.specs.Member.{has}
use Rattle.sets.specs.Words.{bits_of}
use Rattle.graphs.specs.Graph.{stuck}
use Rattle.graphs.specs.Component.{nontrivial, leaves}
use Rattle.game.specs.declared.InSet.{InSet}
use Rattle.game.specs.declared.InState.{InState}
use Rattle.game.specs.declared.OutState.{OutState}
use Rattle.game.specs.declared.Game.{Game}
use Rattle.game.specs.Access.{requirement_at}
use Rattle.play.specs.Play.{graph_of, separated_of}
use Rattle.theory.specs.Region.{region}
use Rattle.scratch.specs.Stored.{Ready}
use Rattle.region_dues.specs.Dues.{out_meets_at, due_in, served_in}

pub record PositionAsked (g : Game) (s : List ℕ) (c : InSet) (i : InState) (o : OutState) : Type 0 where
  pub ready : Ready g s (bits_of c.0)
  pub input : i.0 < g.input.states
  pub output : o.0 < g.output.states

pub record Staying (g : Game) (i o : ℕ) : Type 0 where
  pub lost : region (separated_of g) i o ≡ false
  pub moving : stuck (graph_of g.output) o ≡ false
  pub inside : nontrivial (graph_of g.input) i ≡ true

pub record Exits (g : Game) (i x : ℕ) : Type 0 where
  pub at : (j : ℕ) → has x j ≡ leaves (graph_of g.input) i j

unfoldable pub missed_in : Game → ℕ → ℕ → ℕ → Bool
missed_in g b r j = not (out_meets_at (requirement_at g r) b j)

unfoldable pub owed_in : Game → ℕ → ℕ → ℕ → Bool
owed_in g a b r = due_in g a r && not (served_in g b r)
