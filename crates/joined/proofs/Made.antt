-- What the entry answers, case by case.
use Prim.Native.Nat.{ℕ, ◌≤◌, ◌<◌}
use mathlib.Core.Path.{◌≡◌, refl, sym, ◌∙◌, ap}
use mathlib.Core.Bool.{Bool, true, false}
use mathlib.Core.List.{List, [], ◌∷◌}
use lib.Dec.{leb}
use lib.ListN.{length}
use borrow.Author.Tests.{le-leb, lt-leb}
use Rattle.map_marks.proofs.Answer.{not_done}
use Rattle.map_marks.specs.Answer.{map_number, MapAfter}
use Rattle.finite.proofs.Truth.{and_intro, and_false_left, and_false_right}
use Rattle.sets.specs.Words.{words_for}
use Rattle.game.specs.declared.Game.{Game}
use Rattle.game.specs.Acceptance.{Acceptance, accepted, acceptance}
use Rattle.game.specs.Numbers.{first_of}
use Rattle.game.proofs.Numbers.{after, game_after}
use Rattle.scratch_clearing.specs.Clearing.{cleared}
use Rattle.map_marks.specs.Marks.{MapFilled}
use Rattle.map_marks.proofs.Marks.{marks}
use Rattle.map_marks.specs.Mapped.{made, Mapped}
use Rattle.joined.specs.Joined.{
  counts_small,
  joined_fits,
  joined_room,
  joined_size,
  joined_answer,
  joined_tests,
  joined_scratch,
  JoinedMade,
}
use Rattle.std.specs.declared.result.Result.TheVariants.{Ok, Err}
use Rattle.game.specs.declared.Refusal.{Refusal}
use Rattle.game.specs.declared.Refusal.TheVariants.{ShortScratch, TooManyStates}

-- ---- numbers

joined_number : (g : Game) (s m : ℕ) → map_number (joined_answer g s m) ≡ first_of (joined_tests g s m)
unfolding joined_tests joined_answer joined_size joined_room first_of
joined_number g s m = go (acceptance g) ∙ sym (game_after g ((24, counts_small g) ∷ (8, joined_fits g s m) ∷ []))
  where
    room : (a b : Bool)
        → map_number (elim a as (λ x. Mapped) [ true ↦ elim b as (λ x. Mapped) [ true ↦ made | false ↦ Err ShortScratch ] | false ↦ Err TooManyStates ])
        ≡ first_of ((24, a) ∷ (8, b) ∷ [])
    room true true = refl
    room true false = refl
    room false b = refl

    go : (a : Acceptance)
        → map_number (elim a as (λ x. Mapped) [ Ok u ↦ joined_size g s m | Err n ↦ Err n ])
        ≡ after a (first_of ((24, counts_small g) ∷ (8, joined_fits g s m) ∷ []))
    go (Ok u) = room (counts_small g) (joined_fits g s m)
    go (Err n) = refl

told : (g : Game) (s m : List ℕ) {r : Mapped} → r ≡ joined_answer g (length s) (length m) → map_number r ≡ first_of (joined_tests g (length s) (length m))
told g s m e = ap map_number e ∙ joined_number g (length s) (length m)

-- ---- refusals

refused : (g : Game) (s m : List ℕ) (n : Refusal) → Err n ≡ joined_answer g (length s) (length m) → JoinedMade g s s m m (Err n)
unfolding MapAfter joined_scratch
refused g s m n e = record { answer = e; number = told g s m e; map = refl; scratch = refl; won = λ q. not_done q }

pub joined_faulty : (g : Game) (s m : List ℕ) (n : Refusal) → acceptance g ≡ Err n → JoinedMade g s s m m (Err n)
unfolding joined_answer
joined_faulty g s m n e = refused g s m n (rw (e, joined_answer) refl)

size : (g : Game) (s m : ℕ) (b : Bool) {r : Mapped} → acceptance g ≡ accepted → counts_small g ≡ b
    → r ≡ elim b as (λ x. Mapped) [ true ↦ joined_room g s m | false ↦ Err TooManyStates ] → r ≡ joined_answer g s m
unfolding joined_answer joined_size
size g s m b a e h = rw (a, joined_answer) (rw (e, joined_size) h)

room : (g : Game) (s m : ℕ) (b : Bool) {r : Mapped} → acceptance g ≡ accepted → counts_small g ≡ true → joined_fits g s m ≡ b
    → r ≡ elim b as (λ x. Mapped) [ true ↦ made | false ↦ Err ShortScratch ] → r ≡ joined_answer g s m
unfolding joined_room
room g s m b a c e h = size g s m true a c (rw (e, joined_room) h)

pub small_counts : (g : Game) → g.input.states ≤ 32 → g.output.states ≤ 32 → counts_small g ≡ true
unfolding counts_small
small_counts g a b = and_intro (le-leb g.input.states 32 a) (le-leb g.output.states 32 b)

pub joined_many_inputs : (g : Game) (s m : List ℕ) → acceptance g ≡ accepted → 32 < g.input.states → JoinedMade g s s m m (Err TooManyStates)
unfolding counts_small
joined_many_inputs g s m a b =
    refused g s m TooManyStates (size g (length s) (length m) false a (and_false_left (leb g.output.states 32) (lt-leb g.input.states 32 b)) refl)

pub joined_many_outputs : (g : Game) (s m : List ℕ) → acceptance g ≡ accepted → 32 < g.output.states → JoinedMade g s s m m (Err TooManyStates)
unfolding counts_small
joined_many_outputs g s m a b =
    refused g s m TooManyStates (size g (length s) (length m) false a (and_false_right (leb g.input.states 32) (lt-leb g.output.states 32 b)) refl)

module _ (g : Game) (s m : List ℕ) (a : acceptance g ≡ accepted) (c : counts_small g ≡ true) where
  pub joined_scratch_short : length s < 4096 → JoinedMade g s s m m (Err ShortScratch)
  unfolding joined_fits
  joined_scratch_short b =
      refused g s m ShortScratch
      (room g (length s) (length m) false a c (and_false_left (leb (words_for g.input.states) (length m)) (lt-leb 4096 (length s) b)) refl)

  pub joined_map_short : length m < words_for g.input.states → JoinedMade g s s m m (Err ShortScratch)
  unfolding joined_fits
  joined_map_short b =
      refused g s m ShortScratch
      (room g (length s) (length m) false a c (and_false_right (leb 4096 (length s)) (lt-leb (words_for g.input.states) (length m) b)) refl)

  -- ---- the map

  pub joined_done : (s' m' : List ℕ) → 4096 ≤ length s → words_for g.input.states ≤ length m → s' ≡ cleared 4096 s → MapFilled g m m'
      → JoinedMade g s s' m m' made
  unfolding MapAfter joined_scratch joined_fits
  joined_done s' m' b d e f = record { answer = done; number = told g s m done; map = f; scratch = e; won = λ q. marks g m m' f }
    where
      done : made ≡ joined_answer g (length s) (length m)
      done = room g (length s) (length m) true a c (and_intro (le-leb 4096 (length s) b) (le-leb (words_for g.input.states) (length m) d)) refl
