-- Turns between places, told of lists.
--
--   marked l a                  == place a is marked in l
--   follows I rows to c d       == a turn leads from place c to place d: the move of the input, and where the row leads
--   enters I rows to X c d      == such a turn, d being marked in X
--   Grid I N rows to            == the rows of moves and `to` fit I inputs and N places
use Rattle.std.specs.Prelude.{ℕ, ◌+◌, ◌*◌, ◌/◌, ◌%◌, ◌≤◌, ◌<◌, ◌≡◌, Bool, true, ◌&&◌, List, eqb, get_or}
use Rattle.bits.specs.Member.{has}
use Rattle.sets.specs.Words.{capacity, sets_in}
use Rattle.checker_places.specs.Place.{most_places}

unfoldable pub marked : List ℕ → ℕ → Bool
marked l a = eqb (get_or l a 0) 1

unfoldable pub follows : ℕ → List ℕ → List ℕ → ℕ → ℕ → Bool
follows I rows to c d = has (get_or (sets_in rows) (c % I) 0) (d % I) && eqb (get_or to (c / I * I + d % I) 0) d

unfoldable pub enters : ℕ → List ℕ → List ℕ → List ℕ → ℕ → ℕ → Bool
unfolding follows marked
enters I rows to X c d = follows I rows to c d && marked X d

-- a row that leads to a place leads to one with the row's own input
pub record Grid (I N : ℕ) (rows to : List ℕ) : Type 0 where
  pub some : 0 < I
  pub few : I ≤ capacity
  pub places : N ≤ most_places
  pub whole : (c j : ℕ) → c < N → j < I → c / I * I + j < N
  pub move : (i j : ℕ) → i < I → has (get_or (sets_in rows) i 0) j ≡ true → j < I
  pub input : (c j : ℕ) → c < N → j < I → get_or to (c / I * I + j) 0 < N → get_or to (c / I * I + j) 0 % I ≡ j
