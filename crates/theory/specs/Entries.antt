-- Tables as lists of 16-bit entries, and back.
--
--   stride                        == how far apart the entries of one state for a counter and the next are
--   none_entry                     == the entry that stands for none, and what is read past a table's end
--   entry_state e, entry_counter e  == the state and the counter of the entry e, if it is not none
--   entry a                       == the entry that stands for an answer
--   answer e                      == the answer that an entry stands for
--   controller_entries S           == the controller's table, written out
--   environment_entries S
--   controller_table I M l         == the list of entries l read as a controller's table for I inputs with M counters
--   environment_table O M l        == the same as an environment's table for O outputs
--   outcome S                     == the side that the verdict names, with its table
use Rattle.std.specs.Prelude.{ℕ, ◌+◌, ◌*◌, ◌/◌, ◌%◌, max, true, false, List, ◌∷◌, ◌++◌, eqb, length, get_or}
use Rattle.finite.specs.Tabulate.{tabulate}
use Rattle.arena.specs.Arena.{Separated}
use Rattle.arena.specs.Table.{Answer, none, gives, ControllerTable, EnvironmentTable}
use Rattle.arena.specs.Win.{Outcome, system, environment}
use Rattle.theory.specs.Region.{verdict}
use Rattle.theory.specs.Choice.{
  guarantees,
  assumptions,
  controller_row,
  controller_start,
  environment_row,
  environment_start,
}

-- "An entry becomes next state + 128 × next counter." (M-105) (SPEC 7.1)
abbrev pub stride : ℕ
stride = 128

-- "none is 65,535" (SPEC 7.1)
abbrev pub none_entry : ℕ
none_entry = 65535

abbrev pub entry_state : ℕ → ℕ
entry_state e = e % stride

abbrev pub entry_counter : ℕ → ℕ
entry_counter e = e / stride

-- "Entries are 16 bits: next state + 64 × next counter; none is 65,535.", 128 × by M-105 (SPEC 7.1)
unfoldable pub entry : Answer → ℕ
entry none = none_entry
entry (gives counter state) = state + stride * counter

-- SPEC 7.1
unfoldable pub answer : ℕ → Answer
answer e = elim (eqb e none_entry) [ true ↦ none | false ↦ gives (entry_counter e) (entry_state e) ]

-- "the controller's counter g runs below max(1, G)" (SPEC 5.1)
unfoldable pub controller_counters : Separated → ℕ
controller_counters S = max 1 (length (guarantees S))

-- SPEC 6.1
unfoldable pub environment_counters : Separated → ℕ
environment_counters S = max 1 (length (assumptions S))

-- row number r of rows by a, b and c, the last running fastest, where b runs below B and c below C
unfoldable pub row_of : ℕ → ℕ → (ℕ → ℕ → ℕ → Answer) → ℕ → ℕ
row_of B C f r = entry (f (r / C / B) (r / C % B) (r % C))

-- "Controller: one start entry an input, then rows by output, counter, input, the last running fastest" (SPEC 7.2)
unfoldable pub controller_entries : Separated → List ℕ
controller_entries S =
    let I : ℕ = S.input.states in
    let O : ℕ = S.output.states in
    let M : ℕ = controller_counters S in
    tabulate I (λ i. entry (controller_start S i)) ++ tabulate (O * M * I) (row_of M I (controller_row S))

-- "Panel: one start entry, then rows by input, counter, output" (SPEC 7.3)
unfoldable pub environment_entries : Separated → List ℕ
environment_entries S =
    let I : ℕ = S.input.states in
    let O : ℕ = S.output.states in
    let M : ℕ = environment_counters S in
    entry (environment_start S) ∷ tabulate (I * M * O) (row_of M O (environment_row S))

-- "The table handed over is the filled front, read as under Rooms, its counters being the memory." (SPEC 7.2)
unfoldable pub controller_table : (I M : ℕ) → List ℕ → ControllerTable
controller_table I M l = record {
  memories = M;
  start = λ i. answer (get_or l i none_entry);
  step = λ g o j. answer (get_or l (I + ((o * M + g) * I + j)) none_entry);
}

-- SPEC 7.3
unfoldable pub environment_table : (O M : ℕ) → List ℕ → EnvironmentTable
environment_table O M l = record {
  memories = M;
  start = answer (get_or l 0 none_entry);
  step = λ h i o. answer (get_or l (1 + ((i * M + h) * O + o)) none_entry);
}

-- The side that the verdict names, with its table read from the list of entries.
unfoldable pub outcome : Separated → Outcome
outcome S =
    elim (verdict S) [
      | true ↦ system (controller_table S.input.states (controller_counters S) (controller_entries S))
      | false ↦ environment (environment_table S.output.states (environment_counters S) (environment_entries S))
    ]
