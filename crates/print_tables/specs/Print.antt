-- The print of an answer, whole: its lines in order.
--
--   start_lines n i es             == the start lines of the n inputs from i on
--   step_lines k r c n at es       == the lines of the k rows from r on, the entry of row r being number at + r of es
--   controller_print i o c es      == what is printed where the system wins
--   environment_print i o c es     == what is printed where the environment wins
--   inRange i o c                 == some game has i inputs, o outputs and c sets of one side, or fewer
--   controller_fits i o c n        == a controller's table for these dimensions has n entries; environment_fits likewise
--   controller_answer i o c es     == the print of the controller's table es; empty where es does not fit the dimensions
--   environment_answer i o c es    == the print of the environment's table es; empty where es does not fit the dimensions
use Rattle.std.specs.Prelude.{ℕ, zero, suc, ◌+◌, ◌*◌, max, Bool, true, false, ◌&&◌, List, [], ◌++◌, eqb, leb, get_or, length}
use Rattle.theory.specs.Entries.{none_entry}
use Rattle.print_lines.specs.Line.{wins_line, start_line, environment_start_line, step_line}

unfoldable pub start_lines : ℕ → ℕ → List ℕ → List ℕ
start_lines zero i es = []
start_lines (suc n) i es = start_line i (get_or es i none_entry) ++ start_lines n (suc i) es

unfoldable pub step_lines : ℕ → ℕ → ℕ → ℕ → ℕ → List ℕ → List ℕ
step_lines zero r c n at es = []
step_lines (suc k) r c n at es = step_line c n r (get_or es (at + r) none_entry) ++ step_lines k (suc r) c n at es

-- SPEC 8.3
unfoldable pub controller_print : ℕ → ℕ → ℕ → List ℕ → List ℕ
controller_print i o c es = wins_line true ++ (start_lines i 0 es ++ step_lines (o * max 1 c * i) 0 c i i es)

-- SPEC 8.3
unfoldable pub environment_print : ℕ → ℕ → ℕ → List ℕ → List ℕ
environment_print i o c es = wins_line false ++ (environment_start_line (get_or es 0 none_entry) ++ step_lines (i * max 1 c * o) 0 c o 1 es)

-- "1 to 128 states each"; "k requirements, 0 to 8. Each has 0 to 4 input sets and 0 to 4 output sets." (SPEC 1.1)
unfoldable pub in_range : ℕ → ℕ → ℕ → Bool
in_range i o c = leb i 128 && (leb o 128 && leb c 32)

-- "inputs + outputs × max(1, G) × inputs entries" (SPEC 7.2)
unfoldable pub controller_fits : ℕ → ℕ → ℕ → ℕ → Bool
controller_fits i o c n = in_range i o c && eqb n (i + o * max 1 c * i)

-- "1 + inputs × max(1, H) × outputs entries" (SPEC 7.3)
unfoldable pub environment_fits : ℕ → ℕ → ℕ → ℕ → Bool
environment_fits i o c n = in_range i o c && eqb n (1 + i * max 1 c * o)

unfoldable pub only_if : Bool → List ℕ → List ℕ
only_if true t = t
only_if false t = []

unfoldable pub controller_answer : ℕ → ℕ → ℕ → List ℕ → List ℕ
controller_answer i o c es = only_if (controller_fits i o c (length es)) (controller_print i o c es)

unfoldable pub environment_answer : ℕ → ℕ → ℕ → List ℕ → List ℕ
environment_answer i o c es = only_if (environment_fits i o c (length es)) (environment_print i o c es)
