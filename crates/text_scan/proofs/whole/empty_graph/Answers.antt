-- `empty_graph` meets its contract.
use mathlib.Core.Path.{sym, ◌∙◌}
use Rattle.sets.proofs.Rows.{no_states_lem, words_none}
use Rattle.text_shape.specs.Text.{record_of}
use Rattle.text_shape.specs.Shape.{empty_graph}
use Rattle.text_scan.proofs.whole.empty_graph.Goals as goal

pub returns : goal.returns
unfolding empty_graph record_of
returns c = let none = c.empty-none.ensures.0 ∙ sym no_states_lem in λ i. record { states = c.args.n; initial = none i; moves = words_none i }
