-- What reading a file promises.
--
--   BeginsText s       == s begins the text of some game: a well-shaped file
--   LongestFront s p   == p is the length of the longest front of s that begins a well-shaped file
--   text_refused r      == the refusal r
--   misshapen p        == the refusal 11 at place p
--   judged g           == the answer to a file that is the text of g: g itself, or the first of 1 to 7
--   reading_number a    == document 01's number of the answer a, 0 for a game that is read
--   place_of a          == the place of 11, 0 for another answer
--   ReadNumber s n p   == n is the number that the file s gets, and p the place where that is 11
--   Reads s r          == r is the answer to the file s
use Rattle.std.specs.Prelude.{ℕ, ◌≤◌, ◌<◌, List, ◌++◌, ◌≡◌, length, take}
use Rattle.game.specs.Acceptance.{acceptance}
use Rattle.game.specs.Numbers.{first_of, game_tests}
use Rattle.game.specs.Refusals.{number}
use Rattle.game.specs.declared.Game.{Game}
use Rattle.game.specs.declared.Refusal.{Refusal}
use Rattle.game.specs.declared.Refusal.TheVariants.{LongText}
use Rattle.game.specs.Acceptance.{Acceptance}
use Rattle.text_shape.specs.Text.{game_text, Shaped}
use Rattle.text.specs.declared.Unread.TheVariants.{Misshapen, Refused}
use Rattle.text.specs.Reading.{Reading}
use Rattle.std.specs.declared.result.Result.TheVariants.{Ok, Err}

pub record BeginsText (s : List ℕ) : Type 0 where
  pub game : Game
  pub shaped : Shaped game
  pub back : List ℕ
  pub text : s ++ back ≡ game_text game

-- "P being the length of the longest front of it that begins some well-shaped file" (SPEC 9.4)
pub record LongestFront (s : List ℕ) (p : ℕ) : Type 0 where
  pub within : p ≤ length s
  pub front : BeginsText (take p s)
  pub longest : (q : ℕ) → p < q → q ≤ length s → BeginsText (take q s) → ⊥

abbrev pub text_refused : Refusal → Reading
text_refused r = Err (Refused r)

abbrev pub misshapen : ℕ → Reading
misshapen p = Err (Misshapen p)

unfoldable pub judged_by : Game → Acceptance → Reading
judged_by g (Ok u) = Ok g
judged_by g (Err r) = text_refused r

unfoldable pub judged : Game → Reading
judged g = judged_by g (acceptance g)

abbrev pub reading_number : Reading → ℕ
reading_number (Ok g) = 0
reading_number (Err (Misshapen p)) = 11
reading_number (Err (Refused r)) = number r

abbrev pub place_of : Reading → ℕ
place_of (Ok g) = 0
place_of (Err (Misshapen p)) = p
place_of (Err (Refused r)) = 0

-- "Whoever sends a file: 12 over 40,960 bytes; then 11 not of the shape above, ..; then 1 to 7." (SPEC 9.4)
pub record ReadNumber (s : List ℕ) (n p : ℕ) : Type 0 where
  pub long : 40960 < length s → n ≡ 12
  pub place : length s ≤ 40960 → ((g : Game) → Shaped g → s ≡ game_text g → ⊥) → (n ≡ 11) × LongestFront s p
  pub text : length s ≤ 40960 → (g : Game) → Shaped g → s ≡ game_text g → n ≡ first_of (game_tests g)

-- the same of the whole answer (SPEC 8.2, 9.4)
pub record Reads (s : List ℕ) (r : Reading) : Type 0 where
  pub number : ReadNumber s (reading_number r) (place_of r)
  pub long : 40960 < length s → r ≡ text_refused LongText
  pub place : length s ≤ 40960 → ((g : Game) → Shaped g → s ≡ game_text g → ⊥) → (p : ℕ) × LongestFront s p × (r ≡ misshapen p)
  pub text : length s ≤ 40960 → (g : Game) → Shaped g → s ≡ game_text g → r ≡ judged g
