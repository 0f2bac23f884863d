-- Stored tables moved both ways. "over and back or back and over is the same table"
--
--   to_length, start_over, rank_over, row_over    : what is moved over; each row is the row, where test 21 passes
--   to_fits, to_ranks                             : it passes 23 and 22 of the compact layout
--   from_length, start_back, row_back             : what is moved back
--   from_fits, from_rows                          : it passes 23 of the full layout and, where 22 passes, 21
--   over_and_back, back_and_over                  : the same table
--   entries_fit_lem, entries_rows                     : what the solver writes passes 23 and 21
--   over_entries, back_entries                    : what it writes in one layout, moved, is what it writes in the other
use Prim.Native.Nat.{ℕ, ◌+◌, ◌<◌}
use mathlib.Core.Path.{◌≡◌, sym, ◌∙◌, ap}
use mathlib.Core.Bool.{true}
use mathlib.Core.List.{List}
use lib.ListN.{length, get_or}
use Rattle.graphs.specs.Component.{joined}
use Rattle.graphs.proofs.Component.{joined_from, joined_to}
use Rattle.arena.specs.Arena.{Separated}
use Rattle.theory.specs.Entries.{none_entry, controller_counters, controller_entries, entry}
use Rattle.theory.proofs.Agree.{rows_agree}
use Rattle.compact.specs.Rank.{component_count, rank_of, leader_of}
use Rattle.compact.specs.Compact.{full_length, compact_length, compact_entries, full_row, compact_cell, compact_row}
use Rattle.compact.specs.Moving.{to_compact, from_compact, full_fits, compact_fits, ranks_fit, rows_fit}
use Rattle.compact.proofs.Rank.{rank_same, first_below, first_rank}
use Rattle.compact.proofs.Compact.{
  full_length_lem,
  full_start_of,
  full_row_of,
  full_list_is,
  compact_length_lem,
  compact_start_of,
  compact_rank_of,
  compact_row_of,
  compact_list_is,
}
use Rattle.compact.proofs.Entries.{
  entries_length,
  full_entries,
  starts_equal,
  compact_entries_length,
  compact_rank,
  compact_cell_lem,
}
use Rattle.compact.proofs.Tests.{
  full_fits_intro,
  full_fits_elim,
  compact_fits_intro,
  compact_fits_elim,
  ranks_fit_intro,
  ranks_fit_elim,
  rows_fit_intro,
  row_first,
}

module _ (S : Separated) (l : List ℕ) where
  abbrev I : ℕ
  I = S.input.states

  abbrev O : ℕ
  O = S.output.states

  abbrev M : ℕ
  M = controller_counters S

  start_of : ℕ → ℕ
  start_of i = get_or l i none_entry

  -- moved over

  first_row : ℕ → ℕ → ℕ → ℕ
  first_row o g c = full_row S l o g (leader_of S c)

  pub to_length : length (to_compact S l) ≡ compact_length S
  unfolding to_compact start_of first_row
  to_length = compact_length_lem S start_of first_row

  pub to_fits : compact_fits S (to_compact S l) ≡ true
  to_fits = compact_fits_intro S (to_compact S l) to_length

  pub start_over : (i : ℕ) → i < I → get_or (to_compact S l) i none_entry ≡ get_or l i none_entry
  unfolding to_compact start_of first_row
  start_over i b = compact_start_of S start_of first_row i b

  pub rank_over : (j : ℕ) → j < I → get_or (to_compact S l) (I + j) none_entry ≡ rank_of S j
  unfolding to_compact start_of first_row
  rank_over j b = compact_rank_of S start_of first_row j b

  pub to_ranks : ranks_fit S (to_compact S l) ≡ true
  to_ranks = ranks_fit_intro S (to_compact S l) rank_over

  pub row_over : rows_fit S l ≡ true → (o g j : ℕ) → o < O → g < M → j < I → compact_row S (to_compact S l) o g j ≡ full_row S l o g j
  unfolding to_compact start_of first_row
  row_over h o g j lo lg lj = compact_row_of S start_of first_row o g j lo lg lj ∙ row_first S l h o g j lo lg lj

  -- moved back

  pub from_length : length (from_compact S l) ≡ full_length S
  unfolding from_compact start_of
  from_length = full_length_lem S start_of (compact_row S l)

  pub from_fits : full_fits S (from_compact S l) ≡ true
  from_fits = full_fits_intro S (from_compact S l) from_length

  pub start_back : (i : ℕ) → i < I → get_or (from_compact S l) i none_entry ≡ get_or l i none_entry
  unfolding from_compact start_of
  start_back i b = full_start_of S start_of (compact_row S l) i b

  pub row_back : (o g j : ℕ) → o < O → g < M → j < I → full_row S (from_compact S l) o g j ≡ compact_row S l o g j
  unfolding from_compact start_of
  row_back o g j lo lg lj = full_row_of S start_of (compact_row S l) o g j lo lg lj

  -- a row of the compact layout is that of the game's rank, where test 22 passes
  row_ranked : ranks_fit S l ≡ true → (o g j : ℕ) → j < I → compact_row S l o g j ≡ compact_cell S l o g (rank_of S j)
  unfolding compact_row
  row_ranked h o g j lj = ap (compact_cell S l o g) (ranks_fit_elim S l h j lj)

  back_agree : ranks_fit S l ≡ true → (o g j k : ℕ) → o < O → g < M → joined S.input j k ≡ true
      → full_row S (from_compact S l) o g j ≡ full_row S (from_compact S l) o g k
  back_agree h o g j k lo lg e =
      let lj = joined_from S.input j k e in
      let lk = joined_to S.input j k e in
      row_back o g j lo lg lj
      ∙ row_ranked h o g j lj
      ∙ ap (compact_cell S l o g) (rank_same S j k e)
      ∙ sym (row_ranked h o g k lk)
      ∙ sym (row_back o g k lo lg lk)

  pub from_rows : ranks_fit S l ≡ true → rows_fit S (from_compact S l) ≡ true
  from_rows h = rows_fit_intro S (from_compact S l) (back_agree h)

module _ (S : Separated) (l : List ℕ) where
  -- Over and back: for every list of the full layout that is not refused.
  pub over_and_back : full_fits S l ≡ true → rows_fit S l ≡ true → from_compact S (to_compact S l) ≡ l
  unfolding from_compact
  over_and_back e h =
      full_list_is S (λ i. get_or (to_compact S l) i none_entry) (compact_row S (to_compact S l)) l (full_fits_elim S l e) (start_over S l)
      (row_over S l h)

  -- the row of a component, moved back
  cell_back : ranks_fit S l ≡ true → (o g c : ℕ) → o < S.output.states → g < controller_counters S → c < component_count S
      → full_row S (from_compact S l) o g (leader_of S c) ≡ compact_cell S l o g c
  cell_back h o g c lo lg lc =
      row_back S l o g (leader_of S c) lo lg (first_below S c lc)
      ∙ row_ranked S l h o g (leader_of S c) (first_below S c lc)
      ∙ ap (compact_cell S l o g) (first_rank S c lc)

  -- Back and over: for every list of the compact layout that is not refused.
  pub back_and_over : compact_fits S l ≡ true → ranks_fit S l ≡ true → to_compact S (from_compact S l) ≡ l
  unfolding to_compact
  back_and_over e h =
      compact_list_is S (λ i. get_or (from_compact S l) i none_entry) (λ o g c. full_row S (from_compact S l) o g (leader_of S c)) l
      (compact_fits_elim S l e) (start_back S l) (λ j b. sym (ranks_fit_elim S l h j b)) (cell_back h)

-- what the solver writes
module _ (S : Separated) where
  pub entries_fit_lem : full_fits S (controller_entries S) ≡ true
  entries_fit_lem = full_fits_intro S (controller_entries S) (entries_length S)

  entries_agree : (o g j k : ℕ) → o < S.output.states → g < controller_counters S → joined S.input j k ≡ true
      → full_row S (controller_entries S) o g j ≡ full_row S (controller_entries S) o g k
  entries_agree o g j k lo lg e =
      full_entries S o g j lo lg (joined_from S.input j k e)
      ∙ ap entry (rows_agree S j k e o g lo)
      ∙ sym (full_entries S o g k lo lg (joined_to S.input j k e))

  entries_rows : rows_fit S (controller_entries S) ≡ true
  entries_rows = rows_fit_intro S (controller_entries S) entries_agree

  cell_over : (o g c : ℕ) → o < S.output.states → g < controller_counters S → c < component_count S
      → full_row S (controller_entries S) o g (leader_of S c) ≡ compact_cell S (compact_entries S) o g c
  cell_over o g c lo lg lc = full_entries S o g (leader_of S c) lo lg (first_below S c lc) ∙ sym (compact_cell_lem S o g c lo lg lc)

  -- "The solver can write this layout directly": it is the full layout's table, moved.
  pub over_entries : to_compact S (controller_entries S) ≡ compact_entries S
  unfolding to_compact
  over_entries =
      compact_list_is S (λ i. get_or (controller_entries S) i none_entry) (λ o g c. full_row S (controller_entries S) o g (leader_of S c)) (compact_entries S)
      (compact_entries_length S) (λ i b. sym (starts_equal S i b)) (λ j b. sym (compact_rank S j b)) cell_over

  pub back_entries : from_compact S (compact_entries S) ≡ controller_entries S
  back_entries = ap (from_compact S) (sym over_entries) ∙ over_and_back S (controller_entries S) entries_fit_lem entries_rows
