-- A graph: states numbered from 0, which of them are initial, and moves.
--
--   edge G s t    == the graph moves from s to t, both being states of it
--   Moves G s t   == the same, for walks
--   begins G s    == s is an initial state
--   stuck G s     == s has no move
use Rattle.std.specs.Prelude.{ℕ, ◌≡◌, Bool, true, ◌&&◌, not, ltb}
use Rattle.finite.specs.Bounded.{any}

-- "A graph is a state count, a set of initial states, and 64 rows of moves, one set of next states a row.", 128 rows by M-105. A set is told by its members.
-- SPEC 1.1
pub record Graph : Type 0 where
  pub states : ℕ
  pub initial : ℕ → Bool
  pub moves : ℕ → ℕ → Bool

-- "A state is past the count when its number is not below it." What is past the count is no state, and so neither end of a move. (SPEC 1.1)
unfoldable pub edge : Graph → ℕ → ℕ → Bool
edge G s t = ltb s G.states && (ltb t G.states && G.moves s t)

abbrev pub Moves : Graph → ℕ → ℕ → Type 0
Moves G s t = edge G s t ≡ true

-- SPEC 1.1
unfoldable pub begins : Graph → ℕ → Bool
begins G s = ltb s G.states && G.initial s

-- "a state without a move is accepted" (M-102) (SPEC 1.2)
unfoldable pub stuck : Graph → ℕ → Bool
stuck G s = not (any G.states (edge G s))
