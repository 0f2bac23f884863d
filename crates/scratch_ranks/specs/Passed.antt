-- The way up through the inputs, on which the ranks of their components are written.
--
--   Passed g i x y   == x are the smallest inputs of the components of the inputs below i, and y has what the inputs below i reach
use Rattle.std.specs.Prelude.{ℕ, ◌<◌, ◌≡◌, true, ◌&&◌, ltb}
use Rattle.bits.specs.Member.{has}
use Rattle.graphs.specs.Closure.{reaches}
use Rattle.game.specs.declared.Game.{Game}
use Rattle.play.specs.Play.{graph_of, separated_of}
use Rattle.compact.specs.Rank.{leads}

pub record Passed (g : Game) (i x y : ℕ) : Type 0 where
  pub leaders : (t : ℕ) → has x t ≡ (ltb t i && leads (separated_of g) t)
  pub met : (j t : ℕ) → j < i → reaches (graph_of g.input) j t ≡ true → has y t ≡ true
