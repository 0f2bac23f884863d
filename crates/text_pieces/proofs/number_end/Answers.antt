-- `number_end` meets its contract.
use mathlib.Core.Path.{sym, ◌∙◌}
use Rattle.text_pieces.proofs.Outcomes.{found_got, found_fault}
use Rattle.text_grammar.proofs.Number.{number_end_lem, number_out}
use Rattle.text_pieces.proofs.number_end.Goals as goal

pub returns-then-inside : goal.returns-then-inside
returns-then-inside c = found_got _ (number_end_lem _ _ _ _ (sym c.inside.ensures ∙ c.if-inside.true))

pub returns : goal.returns
returns c = found_fault _ (number_out _ _ _ _ (sym c.inside.ensures ∙ c.if-inside.false))
