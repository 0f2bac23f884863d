-- The numbers that a move is refused with. "After 1 to 7 come 23, 22, 21, then 9 for a target room too short, by the layout written"
--
--   over_length, over_rows, over_room_lem, over_done      : which number a move over gives
--   back_length, back_ranks, back_room_lem, back_done     : which a move back gives
--   over_passes, back_passes                          : what is known where no number is given
--   over_returns, back_returns    : what was moved is moved back to a room of its old length, and no number is given
use Prim.Native.Nat.{ℕ, ◌≤◌, ◌<◌}
use native.Mathlib.Nat.{le_of_eq}
use mathlib.Core.Path.{◌≡◌, refl, sym}
use mathlib.Core.Bool.{true, false}
use mathlib.Core.List.{List}
use mathlib.Core.Logic.{◌⊎◌, inl, inr}
use native.Mathlib.Omega.{arith}
use native.Mathlib.Decide.{dec_lt}
use lib.ListN.{length}
use borrow.Author.Tests.{le-leb, lt-leb}
use Rattle.finite.proofs.Truth.{decide}
use Rattle.arena.specs.Arena.{Separated}
use Rattle.compact.specs.Compact.{full_length, compact_length}
use Rattle.compact.specs.Moving.{to_compact, from_compact, full_fits, compact_fits, ranks_fit, rows_fit, over_number, back_number}
use Rattle.compact.proofs.Tests.{full_fits_elim, compact_fits_elim}
use Rattle.compact.proofs.Moving.{to_fits, to_ranks, from_fits, from_rows}

module _ (S : Separated) (l : List ℕ) (n : ℕ) where
  -- over

  pub over_length : full_fits S l ≡ false → over_number S l n ≡ 23
  unfolding over_number
  over_length a = rw (a, over_number) refl

  pub over_rows : full_fits S l ≡ true → rows_fit S l ≡ false → over_number S l n ≡ 21
  unfolding over_number
  over_rows a b = rw (a, b, over_number) refl

  pub over_room_lem : full_fits S l ≡ true → rows_fit S l ≡ true → n < compact_length S → over_number S l n ≡ 9
  unfolding over_number
  over_room_lem a b c = rw (a, b, lt-leb (compact_length S) n c, over_number) refl

  pub over_done : full_fits S l ≡ true → rows_fit S l ≡ true → compact_length S ≤ n → over_number S l n ≡ 0
  unfolding over_number
  over_done a b c = rw (a, b, le-leb (compact_length S) n c, over_number) refl

  -- back

  pub back_length : compact_fits S l ≡ false → back_number S l n ≡ 23
  unfolding back_number
  back_length a = rw (a, back_number) refl

  pub back_ranks : compact_fits S l ≡ true → ranks_fit S l ≡ false → back_number S l n ≡ 22
  unfolding back_number
  back_ranks a b = rw (a, b, back_number) refl

  pub back_room_lem : compact_fits S l ≡ true → ranks_fit S l ≡ true → n < full_length S → back_number S l n ≡ 9
  unfolding back_number
  back_room_lem a b c = rw (a, b, lt-leb (full_length S) n c, back_number) refl

  pub back_done : compact_fits S l ≡ true → ranks_fit S l ≡ true → full_length S ≤ n → back_number S l n ≡ 0
  unfolding back_number
  back_done a b c = rw (a, b, le-leb (full_length S) n c, back_number) refl

module _ (S : Separated) (l : List ℕ) (n : ℕ) where
  -- no number is given only where no test fails

  over_passes : over_number S l n ≡ 0 → (full_fits S l ≡ true) × (rows_fit S l ≡ true) × (compact_length S ≤ n)
  over_passes e = go (decide (full_fits S l)) (decide (rows_fit S l)) (dec_lt n (compact_length S))
    where
      go : (full_fits S l ≡ true) ⊎ (full_fits S l ≡ false) → (rows_fit S l ≡ true) ⊎ (rows_fit S l ≡ false) → Dec (n < compact_length S)
          → (full_fits S l ≡ true) × (rows_fit S l ≡ true) × (compact_length S ≤ n)
      go (inr a) b c = absurd (omega (arith, over_length S l n a))
      go (inl a) (inr b) c = absurd (omega (arith, over_rows S l n a b))
      go (inl a) (inl b) (yes c) = absurd (omega (arith, over_room_lem S l n a b c))
      go (inl a) (inl b) (no c) = (a, b, omega arith)

  back_passes : back_number S l n ≡ 0 → (compact_fits S l ≡ true) × (ranks_fit S l ≡ true) × (full_length S ≤ n)
  back_passes e = go (decide (compact_fits S l)) (decide (ranks_fit S l)) (dec_lt n (full_length S))
    where
      go : (compact_fits S l ≡ true) ⊎ (compact_fits S l ≡ false) → (ranks_fit S l ≡ true) ⊎ (ranks_fit S l ≡ false) → Dec (n < full_length S)
          → (compact_fits S l ≡ true) × (ranks_fit S l ≡ true) × (full_length S ≤ n)
      go (inr a) b c = absurd (omega (arith, back_length S l n a))
      go (inl a) (inr b) c = absurd (omega (arith, back_ranks S l n a b))
      go (inl a) (inl b) (yes c) = absurd (omega (arith, back_room_lem S l n a b c))
      go (inl a) (inl b) (no c) = (a, b, omega arith)

  -- what was moved may be moved back to where it came from

  pub over_returns : over_number S l n ≡ 0 → back_number S (to_compact S l) (length l) ≡ 0
  over_returns e =
      let p = over_passes e in
      back_done S (to_compact S l) (length l) (to_fits S l) (to_ranks S l) (le_of_eq (sym (full_fits_elim S l p.0)))

  pub back_returns : back_number S l n ≡ 0 → over_number S (from_compact S l) (length l) ≡ 0
  back_returns e =
      let p = back_passes e in
      over_done S (from_compact S l) (length l) (from_fits S l) (from_rows S l p.1) (le_of_eq (sym (compact_fits_elim S l p.0)))
