-- The print of a catalogue's figures.
--
--   number_word, won_word   == the words number and won
--   count_line w n         == (system N), (environment N), (refused N), by the word w
--   pair_text m n          == two numbers, a blank between them, and the line's end
--   number_line r n        == (number R N); nothing where the number r was not met
--   number_lines k r ns    == such lines for the k numbers from r on, rising
--   won_line w p           == (won W P)
--   figures_print t        == the print of the tally t
--   figures_bytes          == how many bytes of a print the catalogue has place for: 32 KiB
use Rattle.std.specs.Prelude.{ℕ, zero, suc, true, false, List, [], ◌∷◌, ◌++◌, eqb, get_or}
use Rattle.text_grammar.specs.Number.{decimal}
use Rattle.text_shape.specs.Text.{word, line}
use Rattle.catalogue_tally.specs.declared.Tally.{Tally}
use Rattle.text_grammar.specs.Marks.{blank, newline, close_bracket}

unfoldable pub number_word : List ℕ
number_word = 110 ∷ 117 ∷ 109 ∷ 98 ∷ 101 ∷ 114 ∷ []

unfoldable pub won_word : List ℕ
won_word = 119 ∷ 111 ∷ 110 ∷ []

unfoldable pub count_line : ℕ → ℕ → List ℕ
count_line w n = line (word w ∷ decimal n ∷ [])

unfoldable pub pair_text : ℕ → ℕ → List ℕ
pair_text m n = (decimal m ++ blank ∷ []) ++ ((decimal n ++ close_bracket ∷ []) ++ newline ∷ [])

unfoldable pub number_line : ℕ → ℕ → List ℕ
number_line r n = elim (eqb n 0) [ true ↦ [] | false ↦ line (number_word ∷ decimal r ∷ decimal n ∷ []) ]

unfoldable pub number_lines : ℕ → ℕ → List ℕ → List ℕ
number_lines zero r ns = []
number_lines (suc k) r ns = number_line r (get_or ns r 0) ++ number_lines k (suc r) ns

unfoldable pub won_line : ℕ → ℕ → List ℕ
won_line w p = line (won_word ∷ decimal w ∷ decimal p ∷ [])

-- "It prints, a line each, (system N), (environment N), (refused N), then (number R N) for each refusal number met, rising, then (won W P)" (SPEC 16.1)
unfoldable pub figures_print : Tally → List ℕ
figures_print t =
    count_line 8 t.system ++ (count_line 9 t.environment ++
    (count_line 7 t.refused ++ (number_lines 256 0 t.numbers ++ won_line t.won t.positions)))

abbrev pub figures_bytes : ℕ
figures_bytes = 32768
