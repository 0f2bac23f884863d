-- "every row read from it equals the row of the old one"
--
--   entries_listed        : the full layout's list, by its starts and rows
--   row_of_first          : "A controller row depends on the new input only through its component": it is the row of the component's smallest state
--   entries_length, full_start, full_entries                  : what is read from the full layout
--   compact_entries_length, compact_start, compact_rank, compact_cell_lem, compact_entries_lem : what is read from the compact layout
--   rows_equal, starts_equal : they are the same
use Prim.Native.Nat.{ℕ, ◌+◌, ◌<◌}
use mathlib.Core.Path.{◌≡◌, refl, sym, ◌∙◌, ap}
use lib.ListN.{length, get_or}
use Rattle.graphs.specs.Component.{number}
use Rattle.graphs.proofs.Component.{joined_sym, number_joined}
use Rattle.arena.specs.Arena.{Separated}
use Rattle.theory.specs.Choice.{controller_row, controller_start}
use Rattle.theory.specs.Entries.{none_entry, entry, controller_counters, row_of, controller_entries}
use Rattle.theory.proofs.Agree.{rows_agree}
use Rattle.compact.specs.Rank.{component_count, rank_of, leader_of}
use Rattle.compact.specs.Compact.{
  full_length,
  compact_length,
  cell_of,
  full_list,
  compact_entries,
  full_row,
  compact_cell,
  compact_row,
}
use Rattle.compact.proofs.Rank.{rank_first}
use Rattle.compact.proofs.Compact.{
  full_length_lem,
  full_start_of,
  full_row_of,
  compact_length_lem,
  compact_start_of,
  compact_rank_of,
  compact_cell_of,
  compact_row_of,
}

module _ (S : Separated) where
  start_entry : ℕ → ℕ
  start_entry i = entry (controller_start S i)

  row_entry : ℕ → ℕ → ℕ → ℕ
  row_entry o g j = entry (controller_row S o g j)

  first_entry : ℕ → ℕ → ℕ → ℕ
  first_entry o g c = entry (controller_row S o g (leader_of S c))

  entries_listed : controller_entries S ≡ full_list S start_entry row_entry
  unfolding controller_entries full_list row_of cell_of start_entry row_entry
  entries_listed = refl

  row_of_first : (o g j : ℕ) → o < S.output.states → j < S.input.states
      → controller_row S o g (leader_of S (rank_of S j)) ≡ controller_row S o g j
  row_of_first o g j lo lj =
      ap (controller_row S o g) (rank_first S j lj)
      ∙ rows_agree S (number S.input j) j (joined_sym S.input j (number S.input j) (number_joined S.input j lj)) o g lo

  -- the full layout

  pub entries_length : length (controller_entries S) ≡ full_length S
  entries_length = rw entries_listed (full_length_lem S start_entry row_entry)

  full_start : (i : ℕ) → i < S.input.states → get_or (controller_entries S) i none_entry ≡ entry (controller_start S i)
  unfolding start_entry
  full_start i b = rw entries_listed (full_start_of S start_entry row_entry i b)

  pub full_entries : (o g j : ℕ) → o < S.output.states → g < controller_counters S → j < S.input.states
      → full_row S (controller_entries S) o g j ≡ entry (controller_row S o g j)
  unfolding row_entry
  full_entries o g j lo lg lj = rw entries_listed (full_row_of S start_entry row_entry o g j lo lg lj)

  -- the compact layout

  pub compact_entries_length : length (compact_entries S) ≡ compact_length S
  unfolding compact_entries start_entry first_entry
  compact_entries_length = compact_length_lem S start_entry first_entry

  pub compact_start : (i : ℕ) → i < S.input.states → get_or (compact_entries S) i none_entry ≡ entry (controller_start S i)
  unfolding compact_entries start_entry first_entry
  compact_start i b = compact_start_of S start_entry first_entry i b

  pub compact_rank : (j : ℕ) → j < S.input.states → get_or (compact_entries S) (S.input.states + j) none_entry ≡ rank_of S j
  unfolding compact_entries start_entry first_entry
  compact_rank j b = compact_rank_of S start_entry first_entry j b

  pub compact_cell_lem : (o g c : ℕ) → o < S.output.states → g < controller_counters S → c < component_count S
      → compact_cell S (compact_entries S) o g c ≡ entry (controller_row S o g (leader_of S c))
  unfolding compact_entries start_entry first_entry
  compact_cell_lem o g c lo lg lc = compact_cell_of S start_entry first_entry o g c lo lg lc

  pub compact_entries_lem : (o g j : ℕ) → o < S.output.states → g < controller_counters S → j < S.input.states
      → compact_row S (compact_entries S) o g j ≡ entry (controller_row S o g j)
  unfolding compact_entries start_entry first_entry
  compact_entries_lem o g j lo lg lj = compact_row_of S start_entry first_entry o g j lo lg lj ∙ ap entry (row_of_first o g j lo lj)

  -- Every row read from the compact layout equals the row of the full one, for all outputs, counters and inputs.
  pub rows_equal : (o g j : ℕ) → o < S.output.states → g < controller_counters S → j < S.input.states
      → compact_row S (compact_entries S) o g j ≡ full_row S (controller_entries S) o g j
  rows_equal o g j lo lg lj = compact_entries_lem o g j lo lg lj ∙ sym (full_entries o g j lo lg lj)

  -- "starts as before"
  pub starts_equal : (i : ℕ) → i < S.input.states → get_or (compact_entries S) i none_entry ≡ get_or (controller_entries S) i none_entry
  starts_equal i b = compact_start i b ∙ sym (full_start i b)
