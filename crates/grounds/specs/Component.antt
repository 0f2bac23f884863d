-- Components of a graph, told of walks.
--
--   Together G s t    == s and t are in one component
--   Nontrivial G s    == the component of s is nontrivial (document 01: stayable)
--   Meets G s p       == the set p meets the component of s
--   Leaves G s t      == a move out of the component of s enters t
use Rattle.std.specs.Prelude.{ℕ, ◌≡◌, Bool, true}
use Rattle.graphs.specs.Walk.{Walk}
use Rattle.graphs.specs.Graph.{Graph, Moves}

-- "A component is a largest set of states that reach one another, or a lone state": a state reaches itself by the walk without a move. (SPEC 4.1)
pub record Together (G : Graph) (s t : ℕ) : Type 0 where
  pub there : Walk (Moves G) s t
  pub back : Walk (Moves G) t s

-- "It is stayable if a move lies inside it." (SPEC 4.1)
pub record Nontrivial (G : Graph) (s : ℕ) : Type 0 where
  pub from : ℕ
  pub to : ℕ
  pub move : Moves G from to
  pub begins : Together G s from
  pub ends : Together G s to

pub record Meets (G : Graph) (s : ℕ) (p : ℕ → Bool) : Type 0 where
  pub state : ℕ
  pub inside : Together G s state
  pub member : p state ≡ true

-- "every state entered by a move out of j's component" (SPEC 4.3)
pub record Leaves (G : Graph) (s t : ℕ) : Type 0 where
  pub from : ℕ
  pub inside : Together G s from
  pub move : Moves G from t
  pub outside : Together G s t → ⊥
