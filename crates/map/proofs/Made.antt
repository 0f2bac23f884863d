-- What the entries answer, case by case.
use Prim.Native.Nat.{ℕ, ◌≤◌, ◌<◌}
use mathlib.Core.Path.{◌≡◌, refl, sym, ◌∙◌, ap, subst}
use mathlib.Core.Bool.{Bool, true, false}
use mathlib.Core.List.{List, [], ◌∷◌}
use lib.Dec.{leb}
use lib.ListN.{length}
use borrow.Author.Tests.{leb-true, le-leb, lt-leb}
use Rattle.map_marks.specs.Answer.{map_number, MapAfter}
use Rattle.map_marks.proofs.Answer.{not_done}
use Rattle.finite.proofs.Truth.{and_left, and_right, and_false_left}
use Rattle.sets.specs.Words.{words_for}
use Rattle.game.specs.declared.Game.{Game}
use Rattle.game.specs.Acceptance.{Acceptance, accepted, acceptance}
use Rattle.game.specs.Numbers.{first_of}
use Rattle.game.proofs.Numbers.{after, game_after}
use Rattle.scratch_clearing.specs.Clearing.{cleared}
use Rattle.scratch.specs.Scratch.{scratch_length}
use Rattle.map_marks.specs.Marks.{MapFilled}
use Rattle.map_marks.proofs.Marks.{marks}
use Rattle.map_marks.specs.Mapped.{made, Mapped}
use Rattle.map.specs.Map.{map_fits, map_room, map_answer, map_tests, map_scratch, MapMade}
use Rattle.std.specs.declared.result.Result.TheVariants.{Ok, Err}
use Rattle.game.specs.declared.Refusal.{Refusal}
use Rattle.game.specs.declared.Refusal.TheVariants.{ShortScratch}

-- what is told of the game on a board, told of the game that was laid out on it
module _ {g h : Game} (e : h ≡ g) where
  pub filled_on : {s t : List ℕ} → MapFilled h s t → MapFilled g s t
  filled_on {s} {t} = subst (λ (x : Game). MapFilled x s t) e

-- ---- the map

map_number_lem : (g : Game) (s m : ℕ) → map_number (map_answer g s m) ≡ first_of (map_tests g s m)
unfolding map_tests map_answer map_room first_of
map_number_lem g s m = go (acceptance g) ∙ sym (game_after g ((8, map_fits g s m) ∷ []))
  where
    room : (b : Bool) → map_number (elim b as (λ x. Mapped) [ true ↦ made | false ↦ Err ShortScratch ]) ≡ first_of ((8, b) ∷ [])
    room true = refl
    room false = refl

    go : (a : Acceptance)
        → map_number (elim a as (λ x. Mapped) [ Ok u ↦ map_room g s m | Err n ↦ Err n ]) ≡ after a (first_of ((8, map_fits g s m) ∷ []))
    go (Ok u) = room (map_fits g s m)
    go (Err n) = refl

told : (g : Game) (s m : List ℕ) {r : Mapped} → r ≡ map_answer g (length s) (length m) → map_number r ≡ first_of (map_tests g (length s) (length m))
told g s m e = ap map_number e ∙ map_number_lem g (length s) (length m)

map_refused : (g : Game) (s m : List ℕ) (n : Refusal) → Err n ≡ map_answer g (length s) (length m) → MapMade g s s m m (Err n)
unfolding MapAfter map_scratch
map_refused g s m n e = record {
  answer = e;
  number = told g s m e;
  map = refl;
  scratch = refl;
  won = λ q. not_done q;
}

pub map_faulty : (g : Game) (s m : List ℕ) (n : Refusal) → acceptance g ≡ Err n → MapMade g s s m m (Err n)
unfolding map_answer
map_faulty g s m n e = map_refused g s m n (rw (e, map_answer) refl)

map_room_lem : (g : Game) (s m : ℕ) (b : Bool) {r : Mapped} → acceptance g ≡ accepted → map_fits g s m ≡ b
    → r ≡ elim b as (λ x. Mapped) [ true ↦ made | false ↦ Err ShortScratch ] → r ≡ map_answer g s m
unfolding map_answer map_room
map_room_lem g s m b a e h = rw (a, map_answer) (rw (e, map_room) h)

pub map_short : (g : Game) (s m : List ℕ) → acceptance g ≡ accepted → map_fits g (length s) (length m) ≡ false → MapMade g s s m m (Err ShortScratch)
map_short g s m a b = map_refused g s m ShortScratch (map_room_lem g (length s) (length m) false a b refl)

-- what is long enough
pub fits_scratch : (g : Game) (s m : ℕ) → map_fits g s m ≡ true → scratch_length g ≤ s
unfolding map_fits
fits_scratch g s m e = leb-true (scratch_length g) s (and_left (leb (scratch_length g) s) (leb (words_for g.input.states) m) e)

pub fits_room : (g : Game) (s m : ℕ) → map_fits g s m ≡ true → words_for g.input.states ≤ m
unfolding map_fits
fits_room g s m e = leb-true (words_for g.input.states) m (and_right (leb (scratch_length g) s) (leb (words_for g.input.states) m) e)

pub short_fits : (g : Game) (s m : ℕ) → s < scratch_length g → false ≡ map_fits g s m
unfolding map_fits
short_fits g s m b = sym (and_false_left (leb (words_for g.input.states) m) (lt-leb (scratch_length g) s b))

pub long_fits : (g : Game) (s m : ℕ) {w : ℕ} → scratch_length g ≤ s → w ≡ words_for g.input.states → leb w m ≡ map_fits g s m
unfolding map_fits
long_fits g s m b e = rw (e, le-leb (scratch_length g) s b) refl

pub map_done : (g : Game) (s s' m m' : List ℕ) → acceptance g ≡ accepted → map_fits g (length s) (length m) ≡ true → s' ≡ cleared (scratch_length g) s
    → MapFilled g m m' → MapMade g s s' m m' made
unfolding MapAfter map_scratch
map_done g s s' m m' a b e f = record {
  answer = done;
  number = told g s m done;
  map = f;
  scratch = e;
  won = λ q. marks g m m' f;
}
  where
    done : made ≡ map_answer g (length s) (length m)
    done = map_room_lem g (length s) (length m) true a b refl
