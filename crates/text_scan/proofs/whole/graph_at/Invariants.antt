-- `graph_at` meets its contract. The invariant: what is left, with what is done, makes the whole.
use Prim.Native.Nat.{◌≤◌, ◌<◌, ◌-◌}
use mathlib.Core.Path.{◌≡◌}
use lib.ListN.{length}
use Rattle.sets.specs.Words.{capacity, row_words, bits_of, set_of, sets_in, words_of}
use Rattle.text_shape.specs.Shape.{states_format, empty_graph}
use Rattle.text_grammar.specs.Place.{bytes}
use Rattle.text_grammar.specs.Format.{run}
use Rattle.text_scan.proofs.whole.graph_at.Given as goal

abbrev pub invariant-loop-t : goal.invariant-loop-t
invariant-loop-t l =
    (run (states_format l.w l.n 0 (empty_graph l.n)) (bytes l.s) l.i
    ≡ run (states_format l.w (l.n - l.t) l.t (record { states = l.n; initial = bits_of l.initial'; moves = sets_in l.moves })) (bytes l.s) l.at)
    × (l.n ≤ capacity) × (l.w < 10) × (set_of (bits_of l.initial') ≡ l.initial') × (words_of (sets_in l.moves) ≡ l.moves) × (length l.moves ≡ row_words)
