-- Document 01's numbers ("Who can cause which number"), as numbers: 0 stands for none.
--
--   numbered ts        == the tests ts under the numbers of their refusals
--   first_of ts         == the number of the first test that fails, in the order in which they are tried; 0 where none does
--   game_tests g        == the tests of a game, under 1 to 7
--   Accepts g a        == a is the answer to g, and its number is the game's
use Rattle.std.specs.Prelude.{ℕ, Bool, true, false, List, [], ◌∷◌, ◌≡◌}
use Rattle.game.specs.declared.Game.{Game}
use Rattle.game.specs.declared.Refusal.{Refusal}
use Rattle.game.specs.Refusals.{number}
use Rattle.game.specs.Acceptance.{tests, Acceptance, acceptance, acceptance_number}

unfoldable pub numbered : List (Refusal × Bool) → List (ℕ × Bool)
numbered [] = []
numbered ((r, b) ∷ ts) = (number r, b) ∷ numbered ts

-- "The lowest number whose condition holds is given, except for file and player as noted; none is given otherwise." (SPEC 9.1)
unfoldable pub first_of : List (ℕ × Bool) → ℕ
first_of [] = 0
first_of ((n, true) ∷ ts) = first_of ts
first_of ((n, false) ∷ ts) = n

unfoldable pub game_tests : Game → List (ℕ × Bool)
game_tests g = numbered (tests g)

-- SPEC 9.1
pub record Accepts (g : Game) (a : Acceptance) : Type 0 where
  pub answer : a ≡ acceptance g
  pub number : acceptance_number a ≡ first_of (game_tests g)
