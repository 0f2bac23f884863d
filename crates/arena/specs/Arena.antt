-- Where the game is played.
--
--   Requirement    == if these sets of inputs recur, these sets of outputs recur
--   Arena          == what both sides may do, and what is required
--   Separated      == two graphs and requirements: document 01's game
--   arena_of S      == the arena that two graphs make
use Rattle.std.specs.Prelude.{ℕ, Bool, List}
use Rattle.graphs.specs.Graph.{Graph, edge, begins}

-- "Each has 0 to 4 input sets and 0 to 4 output sets." The input sets are the assumptions, the output sets the guarantees. (SPEC 1.3)
pub record Requirement : Type 0 where
  pub assumptions : List (ℕ → Bool)
  pub guarantees : List (ℕ → Bool)

-- What the panel (here the environment) and the system may do. `opening i o`: having seen the initial input i, the system may pick the initial
-- output o. `reply j o p`: having seen the next input j, the system may move from output o to p. (SPEC 2.1)
pub record Arena : Type 0 where
  pub inputs : ℕ
  pub outputs : ℕ
  pub in_initial : ℕ → Bool
  pub in_move : ℕ → ℕ → Bool
  pub opening : ℕ → ℕ → Bool
  pub reply : ℕ → ℕ → ℕ → Bool
  pub requirements : List Requirement

-- "The input graph (old drive) and the output graph (new drive)", and the requirements. Neither graph constrains the other's moves. (SPEC 1.1)
pub record Separated : Type 0 where
  pub input : Graph
  pub output : Graph
  pub requirements : List Requirement

-- "The panel picks an initial input; the system, seeing it, picks an initial output. Then, again and again, the panel picks a next input by a
-- move, having seen the output, and the system picks a next output by a move, having seen that input." (SPEC 2.1)
unfoldable pub arena_of : Separated → Arena
arena_of S = record {
  inputs = S.input.states;
  outputs = S.output.states;
  in_initial = begins S.input;
  in_move = edge S.input;
  opening = λ i. begins S.output;
  reply = λ j. edge S.output;
  requirements = S.requirements;
}
