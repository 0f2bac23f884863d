-- Moving a stored table between the layouts. "Stored tables are moved both ways, no scratch lent, and over and back or back and over is the same
-- table."
--
--   to_compact S l, from_compact S l         == the list l of the full layout in the compact one, and back; any list of the layout's length
--   full_fits S l, compact_fits S l    == the list has its layout's length
--   ranks_fit S l                           == the ranks in a list of the compact layout are the game's
--   rows_fit S l                            == no two inputs of one component differ in a row of a list of the full layout
--   over_number S l n, back_number S l n     == the number that a move of l is refused with, n being the length of the target room; 0 where it is not
use Rattle.std.specs.Prelude.{ℕ, ◌+◌, Bool, true, false, ◌||◌, not, List, eqb, leb, length, get_or}
use Rattle.finite.specs.Bounded.{all}
use Rattle.graphs.specs.Component.{joined}
use Rattle.arena.specs.Arena.{Separated}
use Rattle.theory.specs.Entries.{none_entry, controller_counters}
use Rattle.compact.specs.Rank.{rank_of, leader_of}
use Rattle.compact.specs.Compact.{full_length, compact_length, full_list, compact_list, full_row, compact_row}

-- the row of a component is that of its smallest state (SPEC 11.3)
unfoldable pub to_compact : Separated → List ℕ → List ℕ
to_compact S l = compact_list S (λ i. get_or l i none_entry) (λ o g c. full_row S l o g (leader_of S c))

-- SPEC 11.3
unfoldable pub from_compact : Separated → List ℕ → List ℕ
from_compact S l = full_list S (λ i. get_or l i none_entry) (compact_row S l)

-- "23 a length that is not the layout's" (SPEC 11.3)
unfoldable pub full_fits : Separated → List ℕ → Bool
full_fits S l = eqb (length l) (full_length S)

-- SPEC 11.3
unfoldable pub compact_fits : Separated → List ℕ → Bool
compact_fits S l = eqb (length l) (compact_length S)

-- "22 a rank list that is not the game's" (SPEC 11.3)
unfoldable pub ranks_fit : Separated → List ℕ → Bool
ranks_fit S l = all S.input.states (λ j. eqb (get_or l (S.input.states + j) none_entry) (rank_of S j))

-- "21 two inputs of one component differ in a row" (SPEC 11.3)
unfoldable pub pair_fits : Separated → List ℕ → ℕ → ℕ → ℕ → ℕ → Bool
pair_fits S l o g j k = not (joined S.input j k) || eqb (full_row S l o g j) (full_row S l o g k)

-- SPEC 11.3
unfoldable pub rows_fit : Separated → List ℕ → Bool
rows_fit S l =
    all S.output.states
    (λ o. all (controller_counters S) (λ g. all S.input.states (λ j. all S.input.states (pair_fits S l o g j))))

-- "After 1 to 7 come 23, 22, 21, then 9 for a target room too short, by the layout written" (SPEC 11.3)
unfoldable pub over_number : Separated → List ℕ → ℕ → ℕ
over_number S l n =
    elim (full_fits S l) [
      | true ↦ elim (rows_fit S l) [
        | true ↦ elim (leb (compact_length S) n) [ true ↦ 0 | false ↦ 9 ]
        | false ↦ 21
      ]
      | false ↦ 23
    ]

-- SPEC 11.3
unfoldable pub back_number : Separated → List ℕ → ℕ → ℕ
back_number S l n =
    elim (compact_fits S l) [
      | true ↦ elim (ranks_fit S l) [
        | true ↦ elim (leb (full_length S) n) [ true ↦ 0 | false ↦ 9 ]
        | false ↦ 22
      ]
      | false ↦ 23
    ]
