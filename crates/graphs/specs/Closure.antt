-- The reflexive and transitive closure of a graph.
--
--   nearby G s t      == t is s, or a move leads there
--   joins r k s t     == r leads from s to t, at once or by way of k
--   via G k           == rows: whether s reaches t by way of states below k alone
--   reaches G s t     == s reaches t
use Rattle.std.specs.Prelude.{ℕ, zero, suc, Bool, ◌&&◌, ◌||◌, List, eqb}
use Rattle.graphs.specs.Graph.{Graph, edge}
use Rattle.graphs.specs.Rows.{rel, rows_of}

unfoldable pub nearby : Graph → ℕ → ℕ → Bool
nearby G s t = eqb s t || edge G s t

unfoldable pub joins : List ℕ → ℕ → ℕ → ℕ → Bool
joins r k s t = rel r s t || (rel r s k && rel r k t)

-- Warshall's algorithm
unfoldable pub via : Graph → ℕ → List ℕ
via G zero = rows_of G.states G.states (nearby G)
via G (suc k) = let r : List ℕ = via G k in rows_of G.states G.states (joins r k)

-- SPEC 4.1
unfoldable pub reaches : Graph → ℕ → ℕ → Bool
reaches G s t = rel (via G G.states) s t
