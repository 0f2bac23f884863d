-- A small game with two input components, and its table in both layouts.
--
--   example        == inputs 0 to 2; 1 to 1; 2 to 0 and 1: the components {0, 2} and {1}. Outputs 0 to 0 and 1; 1 to 0 and 2; 2 to 2.
--                     If {1} then {2}; if {0} then {0} and {1}: three counters
--   full_example    == its table, rows by input
--   compact_example == its table, rows by component
--   differing      == full_example, the first row of the inputs 0 and 2 not the same
--   misranked      == compact_example, the input 2 with the rank of the other component
use Rattle.std.specs.Prelude.{ℕ, List, [], ◌∷◌, eqb, set}
use Rattle.graphs.specs.Rows.{rel}
use Rattle.arena.specs.Arena.{Separated}

unfoldable pub example : Separated
example = record {
  input = record { states = 3; initial = eqb 0; moves = rel (4 ∷ 2 ∷ 3 ∷ []) };
  output = record { states = 3; initial = eqb 0; moves = rel (3 ∷ 5 ∷ 4 ∷ []) };
  requirements =
      record { assumptions = eqb 1 ∷ []; guarantees = eqb 2 ∷ [] } ∷
      record { assumptions = eqb 0 ∷ []; guarantees = eqb 0 ∷ eqb 1 ∷ [] } ∷ [];
}

-- three starts; a line for each output, by counter and input
unfoldable pub full_example : List ℕ
full_example =
    0 ∷ 65535 ∷ 65535 ∷
    256 ∷ 1 ∷ 256 ∷ 256 ∷ 129 ∷ 256 ∷ 1 ∷ 257 ∷ 1 ∷
    256 ∷ 2 ∷ 256 ∷ 256 ∷ 130 ∷ 256 ∷ 256 ∷ 258 ∷ 256 ∷
    65535 ∷ 130 ∷ 65535 ∷ 65535 ∷ 130 ∷ 65535 ∷ 65535 ∷ 130 ∷ 65535 ∷ []

-- three starts; the ranks; a line for each output, by counter and component
unfoldable pub compact_example : List ℕ
compact_example =
    0 ∷ 65535 ∷ 65535 ∷
    0 ∷ 1 ∷ 0 ∷
    256 ∷ 1 ∷ 256 ∷ 129 ∷ 1 ∷ 257 ∷
    256 ∷ 2 ∷ 256 ∷ 130 ∷ 256 ∷ 258 ∷
    65535 ∷ 130 ∷ 65535 ∷ 130 ∷ 65535 ∷ 130 ∷ []

unfoldable pub differing : List ℕ
differing = set full_example 5 1

unfoldable pub misranked : List ℕ
misranked = set compact_example 5 1
