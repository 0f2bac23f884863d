-- What is printed where a row is none, or where a table does not fit its dimensions, by computing.
use mathlib.Core.List.{[], ◌∷◌}
use mathlib.Core.Path.{◌≡◌, refl}
use Rattle.theory.specs.Entries.{none_entry}
use Rattle.text_grammar.specs.Number.{digits, decimal}
use Rattle.text_shape.specs.Text.{words, word, gap_text, items, bracket, line}
use Rattle.print_lines.specs.Line.{unless_none, winner_word, wins_line, environment_start_line, row_line, step_line}
use Rattle.print_tables.specs.Print.{step_lines, environment_print, in_range, controller_fits, environment_fits, only_if, controller_answer, environment_answer}

-- one input and two outputs, the row of output 0 being none:
--   (wins environment)
--   (start 0)
--   (step 0 0 1 0 0)
pub none_skipped : environment_answer 1 2 1 (0 ∷ none_entry ∷ 0 ∷ [])
    ≡
    40 ∷ 119 ∷ 105 ∷ 110 ∷ 115 ∷ 32 ∷ 101 ∷ 110 ∷ 118 ∷ 105 ∷ 114 ∷ 111 ∷ 110 ∷ 109 ∷ 101 ∷ 110 ∷ 116 ∷ 41 ∷ 10 ∷
    40 ∷ 115 ∷ 116 ∷ 97 ∷ 114 ∷ 116 ∷ 32 ∷ 48 ∷ 41 ∷ 10 ∷
    40 ∷ 115 ∷ 116 ∷ 101 ∷ 112 ∷ 32 ∷ 48 ∷ 32 ∷ 48 ∷ 32 ∷ 49 ∷ 32 ∷ 48 ∷ 32 ∷ 48 ∷ 41 ∷ 10 ∷ []
unfolding environment_answer only_if environment_fits in_range environment_print wins_line winner_word environment_start_line step_lines step_line row_line unless_none
    line bracket items gap_text word words decimal digits
none_skipped = refl

-- one entry more, or a dimension that no game has: nothing
pub another_length : controller_answer 2 2 1 (0 ∷ none_entry ∷ 1 ∷ 1 ∷ 1 ∷ 1 ∷ 1 ∷ []) ≡ []
unfolding controller_answer only_if controller_fits in_range
another_length = refl

pub out_of_range : environment_answer 129 0 0 (0 ∷ []) ≡ []
unfolding environment_answer only_if environment_fits in_range
out_of_range = refl
