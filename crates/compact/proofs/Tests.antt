-- What the tests of the refusals say.
--
--   full_fits_intro, -elim, compact_fits_intro, -elim    : 23, of either layout
--   ranks_fit_intro, -elim                                     : 22
--   rows_fit_intro, -elim                                      : 21
--   row_first, rows_fit_first    : test 21 passes exactly where each row is that of its component's smallest state
use Prim.Native.Nat.{ℕ, ◌+◌, ◌<◌}
use mathlib.Core.Path.{◌≡◌, sym, ◌∙◌, ap}
use mathlib.Core.Bool.{Bool, true, false, not}
use mathlib.Core.Logic.{◌⊎◌, inl, inr}
use mathlib.Core.List.{List}
use lib.Dec.{eqb}
use lib.ListN.{length, get_or}
use borrow.Author.Tests.{eqb-true, eq-eqb}
use Rattle.finite.specs.Bounded.{all}
use Rattle.finite.proofs.Truth.{decide, clash, or_left, or_right, or_cases, not_true}
use Rattle.finite.proofs.Bounded.{all_intro, all_elim}
use Rattle.graphs.specs.Component.{joined, number}
use Rattle.graphs.proofs.Component.{joined_from, joined_to, number_joined, number_below}
use Rattle.arena.specs.Arena.{Separated}
use Rattle.theory.specs.Entries.{none_entry, controller_counters}
use Rattle.compact.specs.Rank.{rank_of, leader_of}
use Rattle.compact.specs.Compact.{full_length, compact_length, full_row}
use Rattle.compact.specs.Moving.{full_fits, compact_fits, ranks_fit, pair_fits, rows_fit}
use Rattle.compact.proofs.Rank.{rank_same, rank_first}

module _ (S : Separated) (l : List ℕ) where
  abbrev I : ℕ
  I = S.input.states

  abbrev O : ℕ
  O = S.output.states

  abbrev M : ℕ
  M = controller_counters S

  -- "23 a length that is not the layout's"

  pub full_fits_intro : length l ≡ full_length S → full_fits S l ≡ true
  unfolding full_fits
  full_fits_intro e = eq-eqb (length l) (full_length S) e

  pub full_fits_elim : full_fits S l ≡ true → length l ≡ full_length S
  unfolding full_fits
  full_fits_elim h = eqb-true (length l) (full_length S) h

  pub compact_fits_intro : length l ≡ compact_length S → compact_fits S l ≡ true
  unfolding compact_fits
  compact_fits_intro e = eq-eqb (length l) (compact_length S) e

  pub compact_fits_elim : compact_fits S l ≡ true → length l ≡ compact_length S
  unfolding compact_fits
  compact_fits_elim h = eqb-true (length l) (compact_length S) h

  -- "22 a rank list that is not the game's"

  rank_fits : ℕ → Bool
  rank_fits j = eqb (get_or l (I + j) none_entry) (rank_of S j)

  pub ranks_fit_intro : ((j : ℕ) → j < I → get_or l (I + j) none_entry ≡ rank_of S j) → ranks_fit S l ≡ true
  unfolding ranks_fit rank_fits
  ranks_fit_intro h = all_intro I rank_fits (λ j b. eq-eqb (get_or l (I + j) none_entry) (rank_of S j) (h j b))

  pub ranks_fit_elim : ranks_fit S l ≡ true → (j : ℕ) → j < I → get_or l (I + j) none_entry ≡ rank_of S j
  unfolding ranks_fit rank_fits
  ranks_fit_elim h j b = eqb-true (get_or l (I + j) none_entry) (rank_of S j) (all_elim I rank_fits h j b)

  -- "21 two inputs of one component differ in a row"

  pair_intro : (o g j k : ℕ) → (joined S.input j k ≡ true → full_row S l o g j ≡ full_row S l o g k) → pair_fits S l o g j k ≡ true
  unfolding pair_fits
  pair_intro o g j k h = go (decide (joined S.input j k))
    where
      go : (joined S.input j k ≡ true) ⊎ (joined S.input j k ≡ false) → pair_fits S l o g j k ≡ true
      go (inl e) = or_right (not (joined S.input j k)) (eq-eqb (full_row S l o g j) (full_row S l o g k) (h e))
      go (inr e) = or_left (eqb (full_row S l o g j) (full_row S l o g k)) (ap not e)

  pair_elim : (o g j k : ℕ) → pair_fits S l o g j k ≡ true → joined S.input j k ≡ true → full_row S l o g j ≡ full_row S l o g k
  unfolding pair_fits
  pair_elim o g j k h e =
      elim (or_cases (not (joined S.input j k)) (eqb (full_row S l o g j) (full_row S l o g k)) h) [
        | inl n ↦ clash e (not_true (joined S.input j k) n)
        | inr q ↦ eqb-true (full_row S l o g j) (full_row S l o g k) q
      ]

  pairs_of : ℕ → ℕ → ℕ → Bool
  pairs_of o g j = all I (pair_fits S l o g j)

  rows_of : ℕ → ℕ → Bool
  rows_of o g = all I (pairs_of o g)

  pub rows_fit_intro : ((o g j k : ℕ) → o < O → g < M → joined S.input j k ≡ true → full_row S l o g j ≡ full_row S l o g k) → rows_fit S l ≡ true
  unfolding rows_fit pairs_of rows_of
  rows_fit_intro h =
      all_intro O (λ o. all M (rows_of o))
      (λ o lo. all_intro M (rows_of o)
      (λ g lg. all_intro I (pairs_of o g)
      (λ j lj. all_intro I (pair_fits S l o g j) (λ k lk. pair_intro o g j k (h o g j k lo lg)))))

  rows_fit_elim : rows_fit S l ≡ true → (o g j k : ℕ) → o < O → g < M → j < I → k < I → joined S.input j k ≡ true
      → full_row S l o g j ≡ full_row S l o g k
  unfolding rows_fit pairs_of rows_of
  rows_fit_elim h o g j k lo lg lj lk e =
      pair_elim o g j k
      (all_elim I (pair_fits S l o g j) (all_elim I (pairs_of o g) (all_elim M (rows_of o) (all_elim O (λ o. all M (rows_of o)) h o lo) g lg) j lj) k lk) e

  -- a row is the row of its component's smallest state
  pub row_first : rows_fit S l ≡ true → (o g j : ℕ) → o < O → g < M → j < I → full_row S l o g (leader_of S (rank_of S j)) ≡ full_row S l o g j
  row_first h o g j lo lg lj =
      ap (full_row S l o g) (rank_first S j lj)
      ∙ sym (rows_fit_elim h o g j (number S.input j) lo lg lj (number_below S.input j lj) (number_joined S.input j lj))

  -- and where each row is, test 21 passes
  pub rows_fit_first : ((o g j : ℕ) → o < O → g < M → j < I → full_row S l o g (leader_of S (rank_of S j)) ≡ full_row S l o g j) → rows_fit S l ≡ true
  rows_fit_first h =
      rows_fit_intro
      (λ o g j k lo lg e.
      sym (h o g j lo lg (joined_from S.input j k e)) ∙ ap (λ (c : ℕ). full_row S l o g (leader_of S c)) (rank_same S j k e)
      ∙ h o g k lo lg (joined_to S.input j k e))
