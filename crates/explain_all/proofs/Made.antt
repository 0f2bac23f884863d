-- What the call answers, case by case.
--
--   all_faulty, all_short                              : the refusals
--   all_done                                           : the answer to an accepted game where the rooms are long enough
--   fits_scratch, fits_room, short_fits, long_fits     : what is long enough
use Prim.Native.Nat.{ℕ, ◌+◌, ◌*◌, ◌≤◌, ◌<◌}
use mathlib.Core.Path.{◌≡◌, refl, sym, ◌∙◌, ap, subst}
use mathlib.Core.Bool.{Bool, true, false}
use mathlib.Core.List.{List, [], ◌∷◌}
use lib.Arith.{digits_lt, digits_div, digits_mod}
use lib.Dec.{leb}
use lib.ListN.{length, get_or}
use borrow.Author.Tests.{leb-true, le-leb, lt-leb}
use Rattle.finite.proofs.Truth.{and_left, and_right, and_false_left}
use Rattle.finite.proofs.Front.{front_at}
use Rattle.game.specs.declared.Game.{Game}
use Rattle.game.specs.Acceptance.{Acceptance, accepted, acceptance}
use Rattle.game.specs.Numbers.{first_of}
use Rattle.game.proofs.Laws.{accepted_fits}
use Rattle.game.proofs.Numbers.{after, game_after}
use Rattle.play.specs.Play.{graph_of, separated_of}
use Rattle.scratch_clearing.specs.Clearing.{cleared}
use Rattle.scratch.specs.Scratch.{scratch_length}
use Rattle.map_marks.specs.Mapped.{made, Mapped}
use Rattle.map_marks.specs.Answer.{map_number}
use Rattle.map_marks.proofs.Answer.{not_done}
use Rattle.map.specs.Map.{map_scratch}
use Rattle.grounds.specs.Ground.{ground}
use Rattle.grounds.specs.Holds.{Explains}
use Rattle.grounds.proofs.Explained.{ground_explains}
use Rattle.explain_all.specs.Entry.{ground_entry, entry_ground}
use Rattle.explain_all.specs.All.{
  positions,
  position_entry,
  all_fits,
  all_room,
  all_answer,
  all_tests,
  grounds_after,
  ExplainedAll,
}
use Rattle.explain_all.proofs.Entries.{entry_read}
use Rattle.std.specs.declared.result.Result.TheVariants.{Ok, Err}
use Rattle.game.specs.declared.Refusal.{Refusal}
use Rattle.game.specs.declared.Refusal.TheVariants.{ShortScratch}

all_number : (g : Game) (s m : ℕ) → map_number (all_answer g s m) ≡ first_of (all_tests g s m)
unfolding all_tests all_answer all_room first_of
all_number g s m = go (acceptance g) ∙ sym (game_after g ((8, all_fits g s m) ∷ []))
  where
    room : (b : Bool) → map_number (elim b as (λ x. Mapped) [ true ↦ made | false ↦ Err ShortScratch ]) ≡ first_of ((8, b) ∷ [])
    room true = refl
    room false = refl

    go : (a : Acceptance)
        → map_number (elim a as (λ x. Mapped) [ Ok u ↦ all_room g s m | Err n ↦ Err n ]) ≡ after a (first_of ((8, all_fits g s m) ∷ []))
    go (Ok u) = room (all_fits g s m)
    go (Err n) = refl

all_room_lem : (g : Game) (s m : ℕ) (b : Bool) {r : Mapped} → acceptance g ≡ accepted → all_fits g s m ≡ b
    → r ≡ elim b as (λ x. Mapped) [ true ↦ made | false ↦ Err ShortScratch ] → r ≡ all_answer g s m
unfolding all_answer all_room
all_room_lem g s m b a e h = rw (a, all_answer) (rw (e, all_room) h)

module _ (g : Game) (s m : List ℕ) where
  told : {r : Mapped} → r ≡ all_answer g (length s) (length m) → map_number r ≡ first_of (all_tests g (length s) (length m))
  told e = ap map_number e ∙ all_number g (length s) (length m)

  refused : (n : Refusal) → Err n ≡ all_answer g (length s) (length m) → ExplainedAll g s s m m (Err n)
  unfolding map_scratch grounds_after
  refused n e = record { answer = e; number = told e; scratch = refl; grounds = refl; explains = λ q. not_done q }

  pub all_faulty : (n : Refusal) → acceptance g ≡ Err n → ExplainedAll g s s m m (Err n)
  unfolding all_answer
  all_faulty n e = refused n (rw (e, all_answer) refl)

  module _ (a : acceptance g ≡ accepted) where
    pub all_short : all_fits g (length s) (length m) ≡ false → ExplainedAll g s s m m (Err ShortScratch)
    all_short b = refused ShortScratch (all_room_lem g (length s) (length m) false a b refl)

    pub all_done : {s' m' : List ℕ} → all_fits g (length s) (length m) ≡ true → s' ≡ cleared (scratch_length g) s
        → m' ≡ grounds_after g made m → ExplainedAll g s s' m m' made
    unfolding map_scratch separated_of graph_of grounds_after positions position_entry
    all_done {s'} {m'} b e f = record {
      answer = done;
      number = told done;
      scratch = e;
      grounds = f;
      explains = λ q i o bi bo. subst (Explains (separated_of g) i o) (sym (stands i o bi bo)) (explained i o bi bo);
    }
      where
        done : made ≡ all_answer g (length s) (length m)
        done = all_room_lem g (length s) (length m) true a b refl

        explained : (i o : ℕ) → i < g.input.states → o < g.output.states → Explains (separated_of g) i o (ground (separated_of g) i o)
        explained i o bi bo = ground_explains (separated_of g) i o bi bo

        at : (i o : ℕ) → i < g.input.states → o < g.output.states
            → get_or m' (i * g.output.states + o) 0 ≡ ground_entry (ground (separated_of g) i o)
        at i o bi bo =
            ap (λ (l : List ℕ). get_or l (i * g.output.states + o) 0) f
            ∙ front_at (position_entry g) m (positions g) (i * g.output.states + o) 0 (digits_lt bi bo)
            ∙ rw (digits_div i bo, digits_mod i bo) refl

        stands : (i o : ℕ) → i < g.input.states → o < g.output.states
            → entry_ground (get_or m' (i * g.output.states + o) 0) ≡ ground (separated_of g) i o
        stands i o bi bo = ap entry_ground (at i o bi bo) ∙ entry_read g (accepted_fits g a) i o bi bo

-- what is long enough
pub fits_scratch : (g : Game) (s m : ℕ) → all_fits g s m ≡ true → scratch_length g ≤ s
unfolding all_fits
fits_scratch g s m e = leb-true (scratch_length g) s (and_left (leb (scratch_length g) s) (leb (positions g) m) e)

pub fits_room : (g : Game) (s m : ℕ) → all_fits g s m ≡ true → positions g ≤ m
unfolding all_fits
fits_room g s m e = leb-true (positions g) m (and_right (leb (scratch_length g) s) (leb (positions g) m) e)

pub short_fits : (g : Game) (s m : ℕ) → s < scratch_length g → false ≡ all_fits g s m
unfolding all_fits
short_fits g s m b = sym (and_false_left (leb (positions g) m) (lt-leb (scratch_length g) s b))

pub long_fits : (g : Game) (s m : ℕ) {n : ℕ} → scratch_length g ≤ s → n ≡ positions g → leb n m ≡ all_fits g s m
unfolding all_fits
long_fits g s m b e = rw (e, le-leb (scratch_length g) s b) refl
