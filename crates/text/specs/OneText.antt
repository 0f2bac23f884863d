-- One text for each game: a game's text is read as that game where a file may be as long, and nothing else is read as it. That what is written is read
-- back, `Writes` promises of every game that is passed (specs/Write.antt).
--
--   IsText s g         == s is the text of the accepted game g
--   OneText            == the laws of texts; proofs/OneText.antt proves them
use Rattle.std.specs.Prelude.{List, ◌≡◌, ℕ, ◌≤◌, ◌<◌, length}
use Rattle.game.specs.Acceptance.{accepted, acceptance}
use Rattle.game.specs.declared.Game.{Game}
use Rattle.game.specs.declared.Refusal.TheVariants.{LongText}
use Rattle.text_shape.specs.Text.{game_text, Shaped}
use Rattle.text.specs.Reading.{Reading}
use Rattle.text.specs.Read.{Reads, text_refused}
use Rattle.std.specs.declared.result.Result.TheVariants.{Ok}

-- SPEC 8.2

pub record IsText (s : List ℕ) (g : Game) : Type 0 where
  pub accepted : acceptance g ≡ accepted
  pub shaped : Shaped g
  pub text : s ≡ game_text g

-- SPEC 8.2
pub record OneText : Type 0 where
  -- two games within the shape's limits with one text are one game
  pub one_game : (g h : Game) → Shaped g → Shaped h → game_text g ≡ game_text h → g ≡ h
  -- the text of an accepted game within them is read as that game, where it is no longer than a file may be:
  -- "reading back is claimed for games whose text is no longer than that" (M-105) (SPEC 8.2)
  pub read_back : (g : Game) (r : Reading) → acceptance g ≡ accepted → Shaped g → length (game_text g) ≤ 40960 → Reads (game_text g) r
      → r ≡ Ok g
  -- every other accepted game's text is refused with 12
  pub too_long : (g : Game) (r : Reading) → acceptance g ≡ accepted → 40960 < length (game_text g) → Reads (game_text g) r → r ≡ text_refused LongText
  -- what is read as a game is that game's text, byte for byte
  pub only_texts : (s : List ℕ) (g : Game) → Reads s (Ok g) → IsText s g
  -- texts that are read as one game are one text
  pub one_text : (s t : List ℕ) (g : Game) → Reads s (Ok g) → Reads t (Ok g) → s ≡ t
