-- Both layouts of a controller's table. "The new layout has starts as before, then the component's rank for each input, then rows by output, counter
-- and component."
--
--   full_length S, compact_length S    == how many entries the full layout has, and the compact one
--   cell_of B C f                           == rows by a, b and c, the last running fastest
--   full_list S start row             == the list in the full layout with these starts and rows
--   compact_list S start row                == the list in the compact layout with these starts and rows, and the game's ranks
--   compact_entries S                       == the controller's table, written out in the compact layout
--   full_row S l o g j                    == the row read from a list in the full layout
--   compact_cell S l o g c                  == the row of the component of rank c in a list in the compact layout
--   compact_row S l o g j                   == the row read from a list in the compact layout: of the rank that the list has for j
--   compact_table S l                       == the list l in the compact layout read as a controller's table
--   compact_outcome S                       == the side that the verdict names, with its table, a controller's read from the compact layout
use Rattle.std.specs.Prelude.{ℕ, ◌+◌, ◌*◌, ◌/◌, ◌%◌, true, false, List, ◌++◌, get_or}
use Rattle.finite.specs.Tabulate.{tabulate}
use Rattle.arena.specs.Arena.{Separated}
use Rattle.arena.specs.Table.{ControllerTable}
use Rattle.arena.specs.Win.{Outcome, system, environment}
use Rattle.theory.specs.Region.{verdict}
use Rattle.theory.specs.Choice.{controller_row, controller_start}
use Rattle.theory.specs.Entries.{none_entry, entry, answer, controller_counters, environment_counters, environment_entries, environment_table}
use Rattle.compact.specs.Rank.{component_count, rank_of, leader_of}

-- "inputs + outputs × max(1, G) × inputs entries" (SPEC 7.2)
unfoldable pub full_length : Separated → ℕ
full_length S = S.input.states + S.output.states * controller_counters S * S.input.states

-- inputs + inputs + outputs × max(1, G) × components (SPEC 11.1)
unfoldable pub compact_length : Separated → ℕ
compact_length S = S.input.states + (S.input.states + S.output.states * controller_counters S * component_count S)

unfoldable pub cell_of : ℕ → ℕ → (ℕ → ℕ → ℕ → ℕ) → ℕ → ℕ
cell_of B C f r = f (r / C / B) (r / C % B) (r % C)

-- "Controller: one start entry an input, then rows by output, counter, input, the last running fastest" (SPEC 7.2)
unfoldable pub full_list : Separated → (ℕ → ℕ) → (ℕ → ℕ → ℕ → ℕ) → List ℕ
full_list S start row =
    let I : ℕ = S.input.states in
    let M : ℕ = controller_counters S in
    tabulate I start ++ tabulate (S.output.states * M * I) (cell_of M I row)

-- SPEC 11.1
unfoldable pub compact_list : Separated → (ℕ → ℕ) → (ℕ → ℕ → ℕ → ℕ) → List ℕ
compact_list S start row =
    let I : ℕ = S.input.states in
    let M : ℕ = controller_counters S in
    let C : ℕ = component_count S in
    tabulate I start ++ (tabulate I (rank_of S) ++ tabulate (S.output.states * M * C) (cell_of M C row))

-- "The solver can write this layout directly": the row of a component is that of its smallest state. (SPEC 11.2)
unfoldable pub compact_entries : Separated → List ℕ
compact_entries S = compact_list S (λ i. entry (controller_start S i)) (λ o g c. entry (controller_row S o g (leader_of S c)))

unfoldable pub full_row : Separated → List ℕ → ℕ → ℕ → ℕ → ℕ
full_row S l o g j = get_or l (S.input.states + ((o * controller_counters S + g) * S.input.states + j)) none_entry

unfoldable pub compact_cell : Separated → List ℕ → ℕ → ℕ → ℕ → ℕ
compact_cell S l o g c =
    get_or l (S.input.states + (S.input.states + ((o * controller_counters S + g) * component_count S + c))) none_entry

-- SPEC 11.2
unfoldable pub compact_row : Separated → List ℕ → ℕ → ℕ → ℕ → ℕ
compact_row S l o g j = compact_cell S l o g (get_or l (S.input.states + j) none_entry)

unfoldable pub compact_table : Separated → List ℕ → ControllerTable
compact_table S l = record {
  memories = controller_counters S;
  start = λ i. answer (get_or l i none_entry);
  step = λ g o j. answer (compact_row S l o g j);
}

unfoldable pub compact_outcome : Separated → Outcome
compact_outcome S =
    elim (verdict S) [
      | true ↦ system (compact_table S (compact_entries S))
      | false ↦ environment (environment_table S.output.states (environment_counters S) (environment_entries S))
    ]
