-- ClosedAt f at l m == the sets m are l with the rows of f's closure from place `at` on, and nothing else has changed
use Rattle.std.specs.Prelude.{ℕ, ◌≡◌, List, ◌++◌, take, drop}
use Rattle.graphs.specs.Rows.{rows_of}
use Rattle.graphs.specs.Closure.{reaches}
use Rattle.game.specs.declared.Graph.{Graph}
use Rattle.play.specs.Play.{graph_of}

pub record ClosedAt (f : Graph) (at : ℕ) (l m : List ℕ) : Type 0 where
  pub rows : m ≡ take at l ++ (rows_of f.states f.states (reaches (graph_of f)) ++ drop f.states (drop at l))
