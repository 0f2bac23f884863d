-- Lists of both layouts: what is read from what is written, and that nothing else is in them.
--
--   full_length_lem, full_start_of, full_row_of              : of the full layout
--   compact_length_lem, compact_start_of, compact_rank_of, compact_cell_of     : of the compact one
--   compact_row_of                 : the row read by the rank that the list has for an input
--   full_list_is, compact_list_is : the list of the layout's length with these starts and rows (and ranks) is the one that is written
use Prim.Native.Nat.{ℕ, ◌+◌, ◌*◌, ◌-◌, ◌<◌}
use mathlib.Core.Path.{◌≡◌, sym, ◌∙◌, ap, ap₂}
use mathlib.Core.List.{List, ◌++◌}
use native.Mathlib.Omega.{arith}
use lib.ListN.{length, get_or, drop, length-append, length-drop}
use lib.Seq.{get_or-drop}
use Rattle.finite.specs.Tabulate.{tabulate}
use Rattle.finite.proofs.Tabulate.{length_tabulate, get_d_tabulate}
use Rattle.arena.specs.Arena.{Separated}
use Rattle.theory.specs.Entries.{none_entry, controller_counters}
use Rattle.theory.proofs.Entries.{place_below}
use Rattle.compact.specs.Rank.{component_count, rank_of}
use Rattle.compact.specs.Compact.{full_length, compact_length, cell_of, full_list, compact_list, full_row, compact_cell, compact_row}
use Rattle.compact.proofs.Rank.{rank_below}
use Rattle.compact.proofs.Lists.{cell_at, front_is, cells_are, at_front, at_rest}

-- what is left behind a front
left_over : (n m : ℕ) (l : List ℕ) → length l ≡ n + m → length (drop n l) ≡ m
left_over n m l e = length-drop n l ∙ ap (λ (k : ℕ). k - n) e ∙ omega arith

module _ (S : Separated) (start : ℕ → ℕ) (row : ℕ → ℕ → ℕ → ℕ) where
  abbrev I : ℕ
  I = S.input.states

  abbrev O : ℕ
  O = S.output.states

  abbrev M : ℕ
  M = controller_counters S

  abbrev C : ℕ
  C = component_count S

  -- the full layout

  abbrev rows : List ℕ
  rows = tabulate (O * M * I) (cell_of M I row)

  pub full_length_lem : length (full_list S start row) ≡ full_length S
  unfolding full_list full_length
  full_length_lem =
      length-append (tabulate I start) rows ∙ ap₂ ◌+◌ (length_tabulate start I) (length_tabulate (cell_of M I row) (O * M * I))

  pub full_start_of : (i : ℕ) → i < I → get_or (full_list S start row) i none_entry ≡ start i
  unfolding full_list
  full_start_of i b = at_front I start rows i none_entry b

  pub full_row_of : (o g j : ℕ) → o < O → g < M → j < I → full_row S (full_list S start row) o g j ≡ row o g j
  unfolding full_list full_row
  full_row_of o g j lo lg lj =
      at_rest I start rows ((o * M + g) * I + j) none_entry
      ∙ get_d_tabulate (cell_of M I row) (O * M * I) ((o * M + g) * I + j) none_entry (place_below O M I o g j lo lg lj)
      ∙ cell_at M I o g j row lg lj

  pub full_list_is : (l : List ℕ) → length l ≡ full_length S → ((i : ℕ) → i < I → start i ≡ get_or l i none_entry)
      → ((o g j : ℕ) → o < O → g < M → j < I → row o g j ≡ full_row S l o g j) → full_list S start row ≡ l
  unfolding full_list full_length full_row
  full_list_is l e s h =
      front_is I start rows l none_entry (omega arith) s
      (cells_are O M I row (drop I l) none_entry (left_over I (O * M * I) l e)
      (λ o g j lo lg lj. h o g j lo lg lj ∙ sym (get_or-drop I l ((o * M + g) * I + j) none_entry)))

  -- the compact layout

  abbrev cells : List ℕ
  cells = tabulate (O * M * C) (cell_of M C row)

  abbrev ranked : List ℕ
  ranked = tabulate I (rank_of S) ++ cells

  pub compact_length_lem : length (compact_list S start row) ≡ compact_length S
  unfolding compact_list compact_length
  compact_length_lem =
      length-append (tabulate I start) ranked
      ∙ ap₂ ◌+◌ (length_tabulate start I)
      (length-append (tabulate I (rank_of S)) cells ∙ ap₂ ◌+◌ (length_tabulate (rank_of S) I) (length_tabulate (cell_of M C row) (O * M * C)))

  pub compact_start_of : (i : ℕ) → i < I → get_or (compact_list S start row) i none_entry ≡ start i
  unfolding compact_list
  compact_start_of i b = at_front I start ranked i none_entry b

  pub compact_rank_of : (j : ℕ) → j < I → get_or (compact_list S start row) (I + j) none_entry ≡ rank_of S j
  unfolding compact_list
  compact_rank_of j b = at_rest I start ranked j none_entry ∙ at_front I (rank_of S) cells j none_entry b

  pub compact_cell_of : (o g c : ℕ) → o < O → g < M → c < C → compact_cell S (compact_list S start row) o g c ≡ row o g c
  unfolding compact_list compact_cell
  compact_cell_of o g c lo lg lc =
      at_rest I start ranked (I + ((o * M + g) * C + c)) none_entry
      ∙ at_rest I (rank_of S) cells ((o * M + g) * C + c) none_entry
      ∙ get_d_tabulate (cell_of M C row) (O * M * C) ((o * M + g) * C + c) none_entry (place_below O M C o g c lo lg lc)
      ∙ cell_at M C o g c row lg lc

  pub compact_row_of : (o g j : ℕ) → o < O → g < M → j < I → compact_row S (compact_list S start row) o g j ≡ row o g (rank_of S j)
  unfolding compact_row
  compact_row_of o g j lo lg lj =
      ap (compact_cell S (compact_list S start row) o g) (compact_rank_of j lj) ∙ compact_cell_of o g (rank_of S j) lo lg (rank_below S j lj)

  pub compact_list_is : (l : List ℕ) → length l ≡ compact_length S → ((i : ℕ) → i < I → start i ≡ get_or l i none_entry)
      → ((j : ℕ) → j < I → rank_of S j ≡ get_or l (I + j) none_entry)
      → ((o g c : ℕ) → o < O → g < M → c < C → row o g c ≡ compact_cell S l o g c) → compact_list S start row ≡ l
  unfolding compact_list compact_length compact_cell
  compact_list_is l e s k h =
      front_is I start ranked l none_entry (omega arith) s
      (front_is I (rank_of S) cells (drop I l) none_entry (omega (arith, left_over I (I + O * M * C) l e))
      (λ j b. k j b ∙ sym (get_or-drop I l j none_entry))
      (cells_are O M C row (drop I (drop I l)) none_entry (left_over I (O * M * C) (drop I l) (left_over I (I + O * M * C) l e))
      (λ o g c lo lg lc.
      h o g c lo lg lc
      ∙ sym (get_or-drop I l (I + ((o * M + g) * C + c)) none_entry)
      ∙ sym (get_or-drop I (drop I l) ((o * M + g) * C + c) none_entry))))
