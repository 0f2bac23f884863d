-- Scratch once all rows of the region stand.
--
--   Prepared g s t x    == scratch t is s with all that the solver reads, and x are the states in nontrivial components
use Rattle.std.specs.Prelude.{ℕ, List}
use Rattle.sets.specs.Words.{bits_of}
use Rattle.game.specs.declared.Game.{Game}
use Rattle.scratch.specs.declared.Nontrivial.{Nontrivial}
use Rattle.scratch.specs.Scratch.{Kept}
use Rattle.scratch.specs.Stored.{NontrivialOf, Ready}

pub record Prepared (g : Game) (s t : List ℕ) (x : Nontrivial) : Type 0 where
  pub ready : Ready g t (bits_of x.inputs.0)
  pub nontrivial : NontrivialOf g x
  pub kept : Kept g s t
