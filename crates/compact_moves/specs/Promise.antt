-- What the moves promise, for every input. l is the table, w the room before and w' the room afterwards.
--
--   over_refusals S l n, back_refusals S l n == the tests of a move over and back under their refusals, in the order in which they are tried
--   move_as a n                  == the answer where that of the tests is a, n being how many entries are written
--   over_answer g l n            == the answer to a move over, to the compact layout, the room being of n entries
--   back_answer g l n            == the answer to a move back, to the full layout
--   over_tests g l n, back_tests g l n    == their tests under their numbers, in the order in which they are tried
--   move_number r                == the number of the answer r, 0 for a move that is made
--   MovedOver g l w w' r        == the move over answers r and leaves the room w as w'
--   MovedBack g l w w' r        == the move back answers r and leaves the room w as w'
--   count_answer g               == how many components the input graph has, or the refusal
--   Counted g r                 == r is that answer, with its number
use Rattle.std.specs.Prelude.{ℕ, ◌≡◌, Bool, List, [], ◌∷◌, ◌++◌, leb, length, drop}
use Rattle.game.specs.Refusals.{number}
use Rattle.game.specs.declared.Game.{Game}
use Rattle.game.specs.declared.Refusal.{Refusal}
use Rattle.game.specs.declared.Refusal.TheVariants.{OtherLayout, RowsDiffer, OtherRanks, ShortController}
use Rattle.arena.specs.Arena.{Separated}
use Rattle.game.specs.Acceptance.{Acceptance, accepted, first_failing, acceptance}
use Rattle.game.specs.Numbers.{first_of, game_tests}
use Rattle.play.specs.Play.{separated_of}
use Rattle.compact.specs.Rank.{component_count}
use Rattle.compact.specs.Compact.{full_length, compact_length}
use Rattle.compact.specs.Moving.{to_compact, from_compact, full_fits, compact_fits, ranks_fit, rows_fit, over_number, back_number}
use Rattle.compact_moves.specs.Move.{Move, Count}
use Rattle.std.specs.declared.result.Result.TheVariants.{Ok, Err}

-- "After 1 to 7 come 23, 22, 21, then 9 for a target room too short, by the layout written" (SPEC 9.1, 11.3)
unfoldable pub over_refusals : Separated → List ℕ → ℕ → List (Refusal × Bool)
over_refusals S l n = (OtherLayout, full_fits S l) ∷ (RowsDiffer, rows_fit S l) ∷ (ShortController, leb (compact_length S) n) ∷ []

-- SPEC 9.1, 11.3
unfoldable pub back_refusals : Separated → List ℕ → ℕ → List (Refusal × Bool)
back_refusals S l n = (OtherLayout, compact_fits S l) ∷ (OtherRanks, ranks_fit S l) ∷ (ShortController, leb (full_length S) n) ∷ []

unfoldable pub move_as : Acceptance → ℕ → Move
move_as (Ok u) n = Ok n
move_as (Err r) n = Err r

unfoldable pub over_answer : Game → List ℕ → ℕ → Move
over_answer g l n =
    elim (acceptance g) [
      | Ok u ↦ move_as (first_failing (over_refusals (separated_of g) l n)) (compact_length (separated_of g))
      | Err r ↦ Err r
    ]

unfoldable pub back_answer : Game → List ℕ → ℕ → Move
back_answer g l n =
    elim (acceptance g) [
      | Ok u ↦ move_as (first_failing (back_refusals (separated_of g) l n)) (full_length (separated_of g))
      | Err r ↦ Err r
    ]

-- the same tests once more, their numbers written out (SPEC 9.1, 11.3)
unfoldable pub over_tests : Game → List ℕ → ℕ → List (ℕ × Bool)
over_tests g l n =
    game_tests g ++ (23, full_fits (separated_of g) l) ∷ (21, rows_fit (separated_of g) l) ∷ (9, leb (compact_length (separated_of g)) n) ∷ []

-- SPEC 9.1, 11.3
unfoldable pub back_tests : Game → List ℕ → ℕ → List (ℕ × Bool)
back_tests g l n =
    game_tests g ++ (23, compact_fits (separated_of g) l) ∷ (22, ranks_fit (separated_of g) l) ∷ (9, leb (full_length (separated_of g)) n) ∷ []

abbrev pub move_number : Move → ℕ
move_number (Ok n) = 0
move_number (Err r) = number r

-- "the rest of that room is unchanged" (SPEC 11.3)
unfoldable pub over_room : Game → Move → List ℕ → List ℕ → List ℕ
over_room g (Ok n) l w = to_compact (separated_of g) l ++ drop n w
over_room g (Err n) l w = w

-- SPEC 11.3
unfoldable pub back_room : Game → Move → List ℕ → List ℕ → List ℕ
back_room g (Ok n) l w = from_compact (separated_of g) l ++ drop n w
back_room g (Err n) l w = w

-- `counted`: the number is that of `over_number` or `back_number`, of which the laws of the layouts speak
-- `over_and_back`, `back_and_over`: what was written, moved again to a room of the table's length, is not refused and is the table (SPEC 11.3)
pub record MovedOver (g : Game) (l w w' : List ℕ) (r : Move) : Type 0 where
  pub answer : r ≡ over_answer g l (length w)
  pub number : move_number r ≡ first_of (over_tests g l (length w))
  pub counted : acceptance g ≡ accepted → move_number r ≡ over_number (separated_of g) l (length w)
  pub room : w' ≡ over_room g r l w
  pub over_and_back : (n : ℕ) → r ≡ Ok n
      → (back_answer g (to_compact (separated_of g) l) (length l) ≡ Ok (length l)) × (from_compact (separated_of g) (to_compact (separated_of g) l) ≡ l)

-- SPEC 11.3
pub record MovedBack (g : Game) (l w w' : List ℕ) (r : Move) : Type 0 where
  pub answer : r ≡ back_answer g l (length w)
  pub number : move_number r ≡ first_of (back_tests g l (length w))
  pub counted : acceptance g ≡ accepted → move_number r ≡ back_number (separated_of g) l (length w)
  pub room : w' ≡ back_room g r l w
  pub back_and_over : (n : ℕ) → r ≡ Ok n
      → (over_answer g (from_compact (separated_of g) l) (length l) ≡ Ok (length l)) × (to_compact (separated_of g) (from_compact (separated_of g) l) ≡ l)

unfoldable pub count_answer : Game → Count
count_answer g = elim (acceptance g) [ Ok u ↦ Ok (component_count (separated_of g)) | Err k ↦ Err k ]

abbrev pub count_number : Count → ℕ
count_number (Ok n) = 0
count_number (Err r) = number r

-- SPEC 11.1
pub record Counted (g : Game) (r : Count) : Type 0 where
  pub answer : r ≡ count_answer g
  pub number : count_number r ≡ first_of (game_tests g)
