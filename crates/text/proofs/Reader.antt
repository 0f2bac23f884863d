-- Reading a file, and what it promises.
use Prim.Native.Nat.{ℕ, ◌≤◌, ◌<◌}
use native.Mathlib.Omega.{arith}
use mathlib.Core.List.{List, ◌++◌}
use mathlib.Core.Path.{◌≡◌, refl, sym, ◌∙◌, ap, subst}
use lib.ListN.{length, take}
use Rattle.text_grammar.specs.Format.{TextOf, run}
use Rattle.text_grammar.specs.Format.Run.{got, fault}
use Rattle.text_grammar.specs.Place.{bytes, Begins, Longest, at_end, reading}
use Rattle.text_grammar.proofs.Place.{one_value, read_got, read_fault, read_fault_none, end_here, end_before}
use Rattle.game.specs.declared.Game.{Game}
use Rattle.text_shape.specs.Text.{game_text, Shaped}
use Rattle.text_shape.specs.Shape.{game_format}
use Rattle.game.specs.Acceptance.{accepted, acceptance, acceptance_number as gameNumber}
use Rattle.game.specs.Numbers.{first_of, game_tests}
use Rattle.game.proofs.Numbers.{accepts}
use Rattle.game.specs.Acceptance.{Acceptance}
use Rattle.text.specs.Read.{BeginsText, LongestFront, text_refused, misshapen, judged_by, judged, reading_number, Reads}
use Rattle.text_shape.proofs.Shape.{game_sound, game_complete, game_live}
use Rattle.game.specs.declared.Refusal.TheVariants.{LongText}
use Rattle.std.specs.declared.result.Result.TheVariants.{Ok, Err}

-- well-shaped by the format, and by the games

pub text_of : (s : List ℕ) (g : Game) → Shaped g → s ≡ game_text g → TextOf game_format s g
text_of s g S e = subst (λ (t : List ℕ). TextOf game_format t g) (sym e) (game_complete g S)

begins_text : (s : List ℕ) → Begins game_format s → BeginsText s
begins_text s B =
    let q = game_sound (s ++ B.back) B.value B.is_text in
    record { game = B.value; shaped = q.0; back = B.back; text = q.1 }

text_begins : (s : List ℕ) → BeginsText s → Begins game_format s
text_begins s B = record { back = B.back; value = B.game; is_text = text_of (s ++ B.back) B.game B.shaped B.text }

longest_front : (s : List ℕ) (p : ℕ) → Longest game_format s p → LongestFront s p
longest_front s p L =
    record {
      within = L.within;
      front = begins_text (take p s) L.front;
      longest = λ q m h B. L.longest q m h (text_begins (take q s) B);
    }

-- the number of an answer
judged_number : (g : Game) → reading_number (judged g) ≡ first_of (game_tests g)
unfolding judged judged_by
judged_number g = go (acceptance g) ∙ (accepts g refl).number
  where
    go : (a : Acceptance) → reading_number (judged_by g a) ≡ gameNumber a
    go (Ok u) = refl
    go (Err r) = refl

-- the answers
pub reads_long : (s : List ℕ) → 40960 < length s → Reads s (text_refused LongText)
reads_long s h = record {
  number = record { long = λ _. refl; place = λ l _. absurd (omega arith); text = λ l g S t. absurd (omega arith) };
  long = λ _. refl;
  place = λ l _. absurd (omega arith);
  text = λ l g S t. absurd (omega arith);
}

reads_fault : (s : List ℕ) (p : ℕ) → length s ≤ 40960 → reading game_format s ≡ fault p → Reads s (misshapen p)
reads_fault s p h f =
    let front = longest_front s p (read_fault game_format game_live s f) in
    record {
      number = record {
        long = λ l. absurd (omega arith);
        place = λ _ _. (refl, front);
        text = λ _ g S t. absurd (read_fault_none game_format game_live s f g (text_of s g S t));
      };
      long = λ l. absurd (omega arith);
      place = λ _ _. (p, front, refl);
      text = λ _ g S t. absurd (read_fault_none game_format game_live s f g (text_of s g S t));
    }

pub reads_place : (s : List ℕ) (p : ℕ) → length s ≤ 40960 → run game_format (bytes s) 0 ≡ fault p → Reads s (misshapen p)
unfolding reading at_end
reads_place s p h f = reads_fault s p h (ap (at_end s) f)

pub reads_extra : (s : List ℕ) (g : Game) (j : ℕ) → length s ≤ 40960 → run game_format (bytes s) 0 ≡ got g j → (j ≡ length s → ⊥) → Reads s (misshapen j)
unfolding reading
reads_extra s g j h f n = reads_fault s j h (ap (at_end s) f ∙ end_before s g j n)

pub reads_game : (s : List ℕ) (g : Game) (j : ℕ) (a : Acceptance) → length s ≤ 40960 → run game_format (bytes s) 0 ≡ got g j → j ≡ length s
    → acceptance g ≡ a → Reads s (judged_by g a)
unfolding reading judged
reads_game s g j a h f n e =
    let t = read_got game_format game_live s (ap (at_end s) f ∙ end_here s g j n) in
    let q = game_sound s g t in
    let same : (k : Game) → Shaped k → s ≡ game_text k → judged_by g a ≡ judged k =
    λ k S u. ap (judged_by g) (sym e) ∙ ap judged (one_value game_format s g k t (text_of s k S u)) in
    record {
      number = record {
        long = λ l. absurd (omega arith);
        place = λ _ none. absurd (none g q.0 q.1);
        text = λ _ k S u. ap reading_number (same k S u) ∙ judged_number k;
      };
      long = λ l. absurd (omega arith);
      place = λ _ none. absurd (none g q.0 q.1);
      text = λ _ k S u. same k S u;
    }

-- the game of a well-shaped file
pub judged_as : (g : Game) {a : Acceptance} → acceptance g ≡ a → judged g ≡ judged_by g a
unfolding judged
judged_as g e = ap (judged_by g) e

pub judged_accepted : (g : Game) → acceptance g ≡ accepted → judged g ≡ Ok g
unfolding judged_by
judged_accepted g e = judged_as g e
