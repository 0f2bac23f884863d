-- The rows of a controller's table, for dimensions and numbers of any size.
--
--   inRange I M o g j       == a table for I inputs with M counters, both as small as a game's, has the row of output o, counter g and new input j
--   row_entry l I M o g j    == that row's entry in the list l; none where there is no such row
use Rattle.std.specs.Prelude.{ℕ, ◌+◌, ◌*◌, Bool, true, false, ◌&&◌, List, ltb, leb, get_or}
use Rattle.sets.specs.Words.{capacity}
use Rattle.theory.specs.Entries.{none_entry}

unfoldable pub in_range : (I M o g j : ℕ) → Bool
in_range I M o g j = leb I capacity && (leb M 32 && (ltb o capacity && (ltb g M && ltb j I)))

-- "one start entry an input, then rows by output, counter, input, the last running fastest" (SPEC 7.2, 9.5)
unfoldable pub row_entry : List ℕ → (I M o g j : ℕ) → ℕ
row_entry l I M o g j =
    elim (in_range I M o g j) [ true ↦ get_or l (I + ((o * M + g) * I + j)) none_entry | false ↦ none_entry ]
