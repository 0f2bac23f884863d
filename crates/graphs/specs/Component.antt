-- Strongly connected components.
--
--   joined G s t        == s and t reach one another: they are in one component
--   number G s          == the smallest state of the component of s
--   nontrivial G s      == a move lies inside the component of s
--   leaves G s t        == a move out of the component of s enters t
--   meets_at G s p       == the set p meets the component of s
--   rank G s            == how many states s reaches
use Rattle.std.specs.Prelude.{ℕ, Bool, ◌&&◌, not}
use Rattle.finite.specs.Bounded.{any, least, count}
use Rattle.graphs.specs.Graph.{Graph, edge}
use Rattle.graphs.specs.Closure.{reaches}

-- "A component is a largest set of states that reach one another, or a lone state" (SPEC 4.1)
unfoldable pub joined : Graph → ℕ → ℕ → Bool
joined G s t = reaches G s t && reaches G t s

-- "its number is its smallest state" (SPEC 4.1)
unfoldable pub number : Graph → ℕ → ℕ
number G s = least G.states (joined G s)

-- "It is stayable if a move lies inside it.": a move of s from which s is reached again (SPEC 4.1)
unfoldable pub nontrivial : Graph → ℕ → Bool
nontrivial G s = any G.states (λ t. edge G s t && reaches G t s)

-- "every state entered by a move out of j's component" (SPEC 4.3)
unfoldable pub leaves : Graph → ℕ → ℕ → Bool
leaves G s t = any G.states (λ k. joined G s k && edge G k t) && not (joined G s t)

-- SPEC 4.2
unfoldable pub meets_at : Graph → ℕ → (ℕ → Bool) → Bool
meets_at G s p = any G.states (λ t. p t && joined G s t)

unfoldable pub rank : Graph → ℕ → ℕ
rank G s = count G.states (reaches G s)
