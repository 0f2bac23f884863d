-- What writing a game promises.
--
--   write_answer g d    == the answer to writing g into the buffer d: 1 to 7, then 13, or the length of its text
--   write_buffer g d    == the buffer afterwards: as it was, or the text of g and then the rest as it was
--   ReadsBack g s      == the bytes s, read again, are the game g; where a file may not be as long, they are refused with 12
--   Writes g d r e     == r is the answer, and e the buffer afterwards; what was written reads back
--   write_tests g d     == its tests under their numbers
--   written_number a    == document 01's number of the answer a, 0 for a text that is written
use Rattle.std.specs.Prelude.{ℕ, ◌≤◌, ◌<◌, Bool, true, false, not, List, [], ◌∷◌, ◌++◌, ◌≡◌, ltb, length, take, drop}
use Rattle.game.specs.Refusals.{number}
use Rattle.game.specs.Acceptance.{acceptance}
use Rattle.game.specs.Numbers.{first_of, game_tests}
use Rattle.game.specs.declared.Game.{Game}
use Rattle.game.specs.Acceptance.{Acceptance}
use Rattle.text_shape.specs.Text.{game_text}
use Rattle.text.specs.Reading.{Reading}
use Rattle.text.specs.WriteAnswer.{WriteAnswer}
use Rattle.text.specs.Read.{Reads, text_refused}
use Rattle.std.specs.declared.result.Result.TheVariants.{Ok, Err}
use Rattle.game.specs.declared.Refusal.TheVariants.{LongText, ShortText}

-- "13 text room under the text's exact length" (SPEC 9.3)

unfoldable pub answer_by : Acceptance → List ℕ → List ℕ → WriteAnswer
answer_by (Err n) t d = Err n
answer_by (Ok u) t d = elim (ltb (length d) (length t)) [ true ↦ Err ShortText | false ↦ Ok (length t) ]

-- "A text fills the front of its room; the rest stays unchanged." (SPEC 8.2)
unfoldable pub buffer_by : Acceptance → List ℕ → List ℕ → List ℕ
buffer_by (Err n) t d = d
buffer_by (Ok u) t d = elim (ltb (length d) (length t)) [ true ↦ d | false ↦ t ++ drop (length t) d ]

unfoldable pub write_answer : Game → List ℕ → WriteAnswer
write_answer g d = answer_by (acceptance g) (game_text g) d

unfoldable pub write_buffer : Game → List ℕ → List ℕ
write_buffer g d = buffer_by (acceptance g) (game_text g) d

-- SPEC 9.1, 9.3
unfoldable pub write_tests : Game → List ℕ → List (ℕ × Bool)
write_tests g d = game_tests g ++ (13, not (ltb (length d) (length (game_text g)))) ∷ []

abbrev pub written_number : WriteAnswer → ℕ
written_number (Ok n) = 0
written_number (Err r) = number r

-- whatever answers as `text::read` promises; "reading back is claimed for games whose text is no longer
-- than that" (M-105) (SPEC 8.2)
pub record ReadsBack (g : Game) (s : List ℕ) : Type 0 where
  pub game : length s ≤ 40960 → (q : Reading) → Reads s q → q ≡ Ok g
  pub long : 40960 < length s → (q : Reading) → Reads s q → q ≡ text_refused LongText

-- SPEC 8.2
pub record Writes (g : Game) (d : List ℕ) (r : WriteAnswer) (e : List ℕ) : Type 0 where
  pub answer : r ≡ write_answer g d
  pub number : written_number r ≡ first_of (write_tests g d)
  pub buffer : e ≡ write_buffer g d
  pub reads_back : (n : ℕ) → r ≡ Ok n → ReadsBack g (take n e)
