-- The joined graph: two graphs that move at once (M-108: "on the joined positions").
--
--   at H s t              == the joined position of s and t, as one number; H is the second graph
--   joint G H             == the joined graph
--   reaches_at S i o j p   == the joined position (i, o) reaches (j, p)
--   joined_at S i o j p    == the joined positions (i, o) and (j, p) are in one component
--   nontrivial_at S i o    == a joint move lies inside the component of (i, o)
--   rank_at S i o          == how many joined positions (i, o) reaches
use Rattle.std.specs.Prelude.{ℕ, ◌+◌, ◌*◌, ◌/◌, ◌%◌, Bool, false, ◌&&◌}
use Rattle.graphs.specs.Graph.{Graph, edge}
use Rattle.graphs.specs.Closure.{reaches}
use Rattle.graphs.specs.Component.{joined, nontrivial, rank}
use Rattle.arena.specs.Arena.{Separated}

unfoldable pub at : Graph → ℕ → ℕ → ℕ
at H s t = s * H.states + t

-- A joint move is a move of each graph. Where to begin is not asked.
unfoldable pub joint : Graph → Graph → Graph
joint G H = record {
  states = G.states * H.states;
  initial = λ c. false;
  moves = λ c d. edge G (c / H.states) (d / H.states) && edge H (c % H.states) (d % H.states);
}

abbrev pub reaches_at : Separated → ℕ → ℕ → ℕ → ℕ → Bool
reaches_at S i o j p = reaches (joint S.input S.output) (at S.output i o) (at S.output j p)

-- "the last components of the joined graph": components of this graph, never of one of the two (SPEC 14.3)
unfoldable pub joined_at : Separated → ℕ → ℕ → ℕ → ℕ → Bool
joined_at S i o j p = joined (joint S.input S.output) (at S.output i o) (at S.output j p)

unfoldable pub nontrivial_at : Separated → ℕ → ℕ → Bool
nontrivial_at S i o = nontrivial (joint S.input S.output) (at S.output i o)

-- "working backward": what is joined has the same number ahead, what is entered by a move out of a component has fewer (SPEC 14.3)
unfoldable pub rank_at : Separated → ℕ → ℕ → ℕ
rank_at S i o = rank (joint S.input S.output) (at S.output i o)
