-- The lines of an answer ("The solve program prints exactly this" of document 01).
--
--   winner_word b                  == the word system where b holds, else environment
--   wins_line b                    == (wins system), (wins environment)
--   start_line i e                 == the controller's (start input output), for the entry e
--   environment_start_line e        == the environment's (start input)
--   row_line a g b e               == (step a g b next-state next-counter)
--   step_line c n r e              == the line of row r: rows run by state, counter, other state, the last fastest;
--                                    c counts the sets that the counter runs over, n the other states
--   refused_line n, misshapen_line p == (refused N), (refused 11 P)
use Rattle.std.specs.Prelude.{ℕ, ◌/◌, ◌%◌, max, Bool, true, false, List, [], ◌∷◌, eqb}
use Rattle.theory.specs.Entries.{none_entry, entry_state, entry_counter}
use Rattle.text_grammar.specs.Number.{decimal}
use Rattle.text_shape.specs.Text.{word, line}

-- "Rows of none are skipped." (SPEC 8.3)
unfoldable pub unless_none : ℕ → List ℕ → List ℕ
unless_none e t = elim (eqb e none_entry) [ true ↦ [] | false ↦ t ]

unfoldable pub winner_word : Bool → ℕ
winner_word true = 8
winner_word false = 9

-- SPEC 8.3
unfoldable pub wins_line : Bool → List ℕ
wins_line b = line (word 4 ∷ word (winner_word b) ∷ [])

-- SPEC 8.3
unfoldable pub start_line : ℕ → ℕ → List ℕ
start_line i e = unless_none e (line (word 5 ∷ decimal i ∷ decimal (entry_state e) ∷ []))

-- SPEC 8.3
unfoldable pub environment_start_line : ℕ → List ℕ
environment_start_line e = unless_none e (line (word 5 ∷ decimal (entry_state e) ∷ []))

unfoldable pub row_line : ℕ → ℕ → ℕ → ℕ → List ℕ
row_line a g b e = line (word 6 ∷ decimal a ∷ decimal g ∷ decimal b ∷ decimal (entry_state e) ∷ decimal (entry_counter e) ∷ [])

-- SPEC 8.3
unfoldable pub step_line : ℕ → ℕ → ℕ → ℕ → List ℕ
step_line c n r e = unless_none e (row_line (r / max 1 n / max 1 c) (r / max 1 n % max 1 c) (r % max 1 n) e)

-- "A refusal prints (refused N), for 11 (refused 11 P)." (SPEC 8.4)
unfoldable pub refused_line : ℕ → List ℕ
refused_line n = line (word 7 ∷ decimal n ∷ [])

-- SPEC 8.4
unfoldable pub misshapen_line : ℕ → List ℕ
misshapen_line p = line (word 7 ∷ decimal 11 ∷ decimal p ∷ [])
