-- What a move answers, case by case.
--
--   over_faulty, over_length, over_rows, over_room_lem, over_made    : a move over
--   back_faulty, back_length, back_ranks, back_room_lem, back_made   : a move back
--   count_faulty, count_made                                     : a count of the components
use Prim.Native.Nat.{ℕ, ◌≤◌, ◌<◌}
use native.Mathlib.Omega.{arith}
use mathlib.Core.Path.{◌≡◌, refl, sym, ◌∙◌, ap, subst}
use mathlib.Core.Bool.{Bool, true, false}
use mathlib.Core.List.{List, [], ◌∷◌, ◌++◌}
use mathlib.Core.Logic.{◌≢◌}
use lib.Dec.{leb}
use lib.ListN.{length, drop}
use borrow.Author.Tests.{ne_eqb, lt-leb}
use Rattle.std.specs.declared.result.Result.TheVariants.{Ok, Err}
use Rattle.game.specs.declared.Game.{Game}
use Rattle.game.specs.declared.Refusal.{Refusal}
use Rattle.game.specs.declared.Refusal.TheVariants.{OtherLayout, OtherRanks, RowsDiffer, ShortController}
use Rattle.game.specs.Refusals.{number}
use Rattle.game.specs.Acceptance.{Acceptance, accepted, first_failing, acceptance, acceptance_number}
use Rattle.game.specs.Numbers.{numbered, first_of, game_tests}
use Rattle.game.proofs.Numbers.{after, game_after, number_alone}
use Rattle.arena.specs.Arena.{Separated}
use Rattle.play.specs.Play.{separated_of}
use Rattle.compact.specs.Rank.{component_count}
use Rattle.compact.specs.Compact.{full_length, compact_length}
use Rattle.compact.specs.Moving.{to_compact, from_compact, full_fits, compact_fits, ranks_fit, rows_fit, over_number, back_number}
use Rattle.compact.proofs.Tests.{full_fits_intro, compact_fits_intro}
use Rattle.compact.proofs.Moving.{over_and_back, back_and_over}
use Rattle.compact.proofs.Numbers as numbers
use Rattle.compact_moves.specs.Move.{Move, Count}
use Rattle.compact_moves.specs.Promise.{
  over_refusals,
  back_refusals,
  move_as,
  over_answer,
  back_answer,
  over_tests,
  back_tests,
  move_number,
  over_room,
  back_room,
  MovedOver,
  MovedBack,
  count_answer,
  count_number,
  Counted,
}

-- ---- the number

number_as : (a : Acceptance) (n : ℕ) → move_number (move_as a n) ≡ acceptance_number a
unfolding move_as
number_as (Ok u) n = refl
number_as (Err r) n = refl

accepted_as : (a b : Acceptance) (n : ℕ) → move_number (elim a as (λ x. Move) [ Ok u ↦ move_as b n | Err r ↦ Err r ]) ≡ after a (acceptance_number b)
accepted_as (Ok u) b n = number_as b n
accepted_as (Err r) b n = refl

tests_number : (ts : List (Refusal × Bool)) → acceptance_number (first_failing ts) ≡ first_of (numbered ts)
unfolding first_failing numbered first_of
tests_number [] = refl
tests_number ((r, true) ∷ ts) = tests_number ts
tests_number ((r, false) ∷ ts) = refl

-- three tests in a row: the number is that of their answer, and none is given only where all hold
three : (p q r : Refusal) (a b c : Bool)
    → elim a as (λ x. ℕ) [
      | true ↦ elim b as (λ x. ℕ) [ true ↦ elim c as (λ x. ℕ) [ true ↦ 0 | false ↦ number r ] | false ↦ number q ]
      | false ↦ number p
    ]
    ≡ acceptance_number (first_failing ((p, a) ∷ (q, b) ∷ (r, c) ∷ []))
unfolding first_failing
three p q r true true true = refl
three p q r true true false = refl
three p q r true false c = refl
three p q r false b c = refl

three_none : (p q r : Refusal) → 0 < number p → 0 < number q → 0 < number r → (a b c : Bool)
    → acceptance_number (first_failing ((p, a) ∷ (q, b) ∷ (r, c) ∷ [])) ≡ 0 → first_failing ((p, a) ∷ (q, b) ∷ (r, c) ∷ []) ≡ accepted
unfolding first_failing
three_none p q r x y z true true true e = refl
three_none p q r x y z true true false e = absurd (omega arith)
three_none p q r x y z true false c e = absurd (omega arith)
three_none p q r x y z false b c e = absurd (omega arith)

not_moved : {A : Type 0} (n : ℕ) (r : Refusal) → Err r ≡ Ok n → A
not_moved {A} n r e = absurd (subst told e tt)
  where
    told : Move → Type 0
    told (Ok n) = ⊥
    told (Err n) = Unit {0}

-- what the tests say, by those that hold
module _ (S : Separated) (l : List ℕ) (n : ℕ) where
  over_number_as : over_number S l n ≡ acceptance_number (first_failing (over_refusals S l n))
  unfolding over_number over_refusals
  over_number_as = three OtherLayout RowsDiffer ShortController (full_fits S l) (rows_fit S l) (leb (compact_length S) n)

  back_number_as : back_number S l n ≡ acceptance_number (first_failing (back_refusals S l n))
  unfolding back_number back_refusals
  back_number_as = three OtherLayout OtherRanks ShortController (compact_fits S l) (ranks_fit S l) (leb (full_length S) n)

  over_none : over_number S l n ≡ 0 → first_failing (over_refusals S l n) ≡ accepted
  unfolding over_refusals
  over_none e =
      three_none OtherLayout RowsDiffer ShortController (omega arith) (omega arith) (omega arith) (full_fits S l) (rows_fit S l)
      (leb (compact_length S) n) (sym over_number_as ∙ e)

  back_none : back_number S l n ≡ 0 → first_failing (back_refusals S l n) ≡ accepted
  unfolding back_refusals
  back_none e =
      three_none OtherLayout OtherRanks ShortController (omega arith) (omega arith) (omega arith) (compact_fits S l) (ranks_fit S l)
      (leb (full_length S) n) (sym back_number_as ∙ e)

  over_other : full_fits S l ≡ false → first_failing (over_refusals S l n) ≡ Err OtherLayout
  unfolding over_refusals first_failing
  over_other a = rw (a, first_failing) refl

  over_differ : full_fits S l ≡ true → rows_fit S l ≡ false → first_failing (over_refusals S l n) ≡ Err RowsDiffer
  unfolding over_refusals first_failing
  over_differ a b = rw (a, b, first_failing) refl

  over_short : full_fits S l ≡ true → rows_fit S l ≡ true → n < compact_length S → first_failing (over_refusals S l n) ≡ Err ShortController
  unfolding over_refusals first_failing
  over_short a b h = rw (a, b, lt-leb (compact_length S) n h, first_failing) refl

  back_other : compact_fits S l ≡ false → first_failing (back_refusals S l n) ≡ Err OtherLayout
  unfolding back_refusals first_failing
  back_other a = rw (a, first_failing) refl

  back_differ : compact_fits S l ≡ true → ranks_fit S l ≡ false → first_failing (back_refusals S l n) ≡ Err OtherRanks
  unfolding back_refusals first_failing
  back_differ a b = rw (a, b, first_failing) refl

  back_short : compact_fits S l ≡ true → ranks_fit S l ≡ true → n < full_length S → first_failing (back_refusals S l n) ≡ Err ShortController
  unfolding back_refusals first_failing
  back_short a b h = rw (a, b, lt-leb (full_length S) n h, first_failing) refl

module _ (g : Game) (a : acceptance g ≡ accepted) (l : List ℕ) where
  over_as : (n : ℕ) (k : Acceptance) → first_failing (over_refusals (separated_of g) l n) ≡ k → over_answer g l n ≡ move_as k (compact_length (separated_of g))
  unfolding over_answer
  over_as n k h = rw (a, h, over_answer) refl

  back_as : (n : ℕ) (k : Acceptance) → first_failing (back_refusals (separated_of g) l n) ≡ k → back_answer g l n ≡ move_as k (full_length (separated_of g))
  unfolding back_answer
  back_as n k h = rw (a, h, back_answer) refl

module _ (g : Game) (l : List ℕ) where
  abbrev S : Separated
  S = separated_of g

  over_number_lem : (n : ℕ) → move_number (over_answer g l n) ≡ first_of (over_tests g l n)
  unfolding over_answer over_tests over_refusals numbered
  over_number_lem n =
      accepted_as (acceptance g) (first_failing (over_refusals S l n)) (compact_length S)
      ∙ ap (after (acceptance g)) (tests_number (over_refusals S l n))
      ∙ sym (game_after g (numbered (over_refusals S l n)))

  back_number_lem : (n : ℕ) → move_number (back_answer g l n) ≡ first_of (back_tests g l n)
  unfolding back_answer back_tests back_refusals numbered
  back_number_lem n =
      accepted_as (acceptance g) (first_failing (back_refusals S l n)) (full_length S)
      ∙ ap (after (acceptance g)) (tests_number (back_refusals S l n))
      ∙ sym (game_after g (numbered (back_refusals S l n)))

  over_counted : (n : ℕ) → acceptance g ≡ accepted → move_number (over_answer g l n) ≡ over_number S l n
  unfolding over_answer
  over_counted n a =
      accepted_as (acceptance g) (first_failing (over_refusals S l n)) (compact_length S)
      ∙ ap (λ (x : Acceptance). after x (acceptance_number (first_failing (over_refusals S l n)))) a
      ∙ sym (over_number_as S l n)

  back_counted : (n : ℕ) → acceptance g ≡ accepted → move_number (back_answer g l n) ≡ back_number S l n
  unfolding back_answer
  back_counted n a =
      accepted_as (acceptance g) (first_failing (back_refusals S l n)) (full_length S)
      ∙ ap (λ (x : Acceptance). after x (acceptance_number (first_failing (back_refusals S l n)))) a
      ∙ sym (back_number_as S l n)

  -- ---- refusals

  module _ (w : List ℕ) where
    over_refused : (r : Refusal) → Err r ≡ over_answer g l (length w) → MovedOver g l w w (Err r)
    unfolding over_room
    over_refused r h = record {
      answer = h;
      number = ap move_number h ∙ over_number_lem (length w);
      counted = λ a. ap move_number h ∙ over_counted (length w) a;
      room = refl;
      over_and_back = λ n e. not_moved n r e;
    }

    back_refused : (r : Refusal) → Err r ≡ back_answer g l (length w) → MovedBack g l w w (Err r)
    unfolding back_room
    back_refused r h = record {
      answer = h;
      number = ap move_number h ∙ back_number_lem (length w);
      counted = λ a. ap move_number h ∙ back_counted (length w) a;
      room = refl;
      back_and_over = λ n e. not_moved n r e;
    }

    pub over_faulty : (r : Refusal) → acceptance g ≡ Err r → MovedOver g l w w (Err r)
    unfolding over_answer
    over_faulty r a = over_refused r (rw (a, over_answer) refl)

    pub back_faulty : (r : Refusal) → acceptance g ≡ Err r → MovedBack g l w w (Err r)
    unfolding back_answer
    back_faulty r a = back_refused r (rw (a, back_answer) refl)

  module _ (a : acceptance g ≡ accepted) where
    module _ (w : List ℕ) where
      over_told : (r : Refusal) → first_failing (over_refusals S l (length w)) ≡ Err r → MovedOver g l w w (Err r)
      unfolding move_as
      over_told r h = over_refused w r (sym (over_as g a l (length w) (Err r) h))

      back_told : (r : Refusal) → first_failing (back_refusals S l (length w)) ≡ Err r → MovedBack g l w w (Err r)
      unfolding move_as
      back_told r h = back_refused w r (sym (back_as g a l (length w) (Err r) h))

      pub over_length : length l ≢ full_length S → MovedOver g l w w (Err OtherLayout)
      unfolding full_fits
      over_length h = over_told OtherLayout (over_other S l (length w) (ne_eqb (length l) (full_length S) h))

      pub back_length : length l ≢ compact_length S → MovedBack g l w w (Err OtherLayout)
      unfolding compact_fits
      back_length h = back_told OtherLayout (back_other S l (length w) (ne_eqb (length l) (compact_length S) h))

      module _ (long : length l ≡ full_length S) where
        pub over_rows : rows_fit S l ≡ false → MovedOver g l w w (Err RowsDiffer)
        over_rows h = over_told RowsDiffer (over_differ S l (length w) (full_fits_intro S l long) h)

        module _ (rows : rows_fit S l ≡ true) where
          pub over_room_lem : length w < compact_length S → MovedOver g l w w (Err ShortController)
          over_room_lem h = over_told ShortController (over_short S l (length w) (full_fits_intro S l long) rows h)

          pub over_made : (n : ℕ) {w' : List ℕ} → n ≡ compact_length S → compact_length S ≤ length w → w' ≡ to_compact S l ++ drop (compact_length S) w
              → MovedOver g l w w' (Ok n)
          unfolding move_as over_room
          over_made n {w'} z h e = record {
            answer = made;
            number = ap move_number made ∙ over_number_lem (length w);
            counted = λ b. ap move_number made ∙ over_counted (length w) b;
            room = e ∙ ap (λ (k : ℕ). to_compact S l ++ drop k w) (sym z);
            over_and_back = λ k q. (again, over_and_back S l (full_fits_intro S l long) rows);
          }
            where
              none : over_number S l (length w) ≡ 0
              none = numbers.over_done S l (length w) (full_fits_intro S l long) rows h

              made : Ok n ≡ over_answer g l (length w)
              made = ap Ok z ∙ sym (over_as g a l (length w) accepted (over_none S l (length w) none))

              again : back_answer g (to_compact S l) (length l) ≡ Ok (length l)
              again =
                  back_as g a (to_compact S l) (length l) accepted
                  (back_none S (to_compact S l) (length l) (numbers.over_returns S l (length w) none))
                  ∙ ap Ok (sym long)

      module _ (long : length l ≡ compact_length S) where
        pub back_ranks : ranks_fit S l ≡ false → MovedBack g l w w (Err OtherRanks)
        back_ranks h = back_told OtherRanks (back_differ S l (length w) (compact_fits_intro S l long) h)

        module _ (ranks : ranks_fit S l ≡ true) where
          pub back_room_lem : length w < full_length S → MovedBack g l w w (Err ShortController)
          back_room_lem h = back_told ShortController (back_short S l (length w) (compact_fits_intro S l long) ranks h)

          pub back_made : (n : ℕ) {w' : List ℕ} → n ≡ full_length S → full_length S ≤ length w → w' ≡ from_compact S l ++ drop (full_length S) w
              → MovedBack g l w w' (Ok n)
          unfolding move_as back_room
          back_made n {w'} z h e = record {
            answer = made;
            number = ap move_number made ∙ back_number_lem (length w);
            counted = λ b. ap move_number made ∙ back_counted (length w) b;
            room = e ∙ ap (λ (k : ℕ). from_compact S l ++ drop k w) (sym z);
            back_and_over = λ k q. (again, back_and_over S l (compact_fits_intro S l long) ranks);
          }
            where
              none : back_number S l (length w) ≡ 0
              none = numbers.back_done S l (length w) (compact_fits_intro S l long) ranks h

              made : Ok n ≡ back_answer g l (length w)
              made = ap Ok z ∙ sym (back_as g a l (length w) accepted (back_none S l (length w) none))

              again : over_answer g (from_compact S l) (length l) ≡ Ok (length l)
              again =
                  over_as g a (from_compact S l) (length l) accepted
                  (over_none S (from_compact S l) (length l) (numbers.back_returns S l (length w) none))
                  ∙ ap Ok (sym long)

-- ---- the count of the components

module _ (g : Game) where
  count_number_lem : count_number (count_answer g) ≡ first_of (game_tests g)
  unfolding count_answer
  count_number_lem = as_accepted (acceptance g) ∙ number_alone (acceptance g) (game_tests g) (game_after g)
    where
      as_accepted : (a : Acceptance)
          → count_number (elim a as (λ x. Count) [ Ok u ↦ Ok (component_count (separated_of g)) | Err k ↦ Err k ]) ≡ acceptance_number a
      as_accepted (Ok u) = refl
      as_accepted (Err k) = refl

  counted : {r : Count} → r ≡ count_answer g → Counted g r
  counted e = record { answer = e; number = ap count_number e ∙ count_number_lem }

  pub count_faulty : (r : Refusal) → acceptance g ≡ Err r → Counted g (Err r)
  unfolding count_answer
  count_faulty r a = counted (rw (a, count_answer) refl)

  pub count_made : (n : ℕ) → acceptance g ≡ accepted → n ≡ component_count (separated_of g) → Counted g (Ok n)
  unfolding count_answer
  count_made n a e = counted (ap Ok e ∙ rw (a, count_answer) refl)
