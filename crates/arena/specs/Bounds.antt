-- The states of an arena are numbered below its counts.
--
--   Bounded A    == what the arena allows stays below its counts
use Rattle.std.specs.Prelude.{ℕ, ◌<◌, ◌≡◌, true}
use Rattle.arena.specs.Arena.{Arena}

-- "The input graph (old drive) and the output graph (new drive) have 1 to 64 states each, numbered from 0."; to 128 by M-105 (SPEC 1.1)
pub record Bounded (A : Arena) : Type 0 where
  pub initial : (i : ℕ) → A.in_initial i ≡ true → i < A.inputs
  pub move : (i j : ℕ) → A.in_move i j ≡ true → j < A.inputs
  pub opening : (i o : ℕ) → A.opening i o ≡ true → o < A.outputs
  pub reply : (j o p : ℕ) → A.reply j o p ≡ true → p < A.outputs
