-- `outputs_at` meets its contract.
use mathlib.Core.Path.{sym, ◌∙◌}
use native.Mathlib.Omega.{arith}
use Rattle.text_lines.proofs.LineSteps.{outputs_none, outputs_no_k, outputs_no_end, outputs_got}
use Rattle.text_grammar.proofs.Place.{byte_within}
use Rattle.text_pieces.proofs.Outcomes.{found_got, found_fault, found_value, fault_found, handed_on}
use Rattle.text_lines.proofs.outputs_at.Goals as goal

pub returns-in_err-o : goal.returns-in_err-o
returns-in_err-o c = handed_on c.from_residual.ensures.1 (found_fault _ (outputs_none _ _ _ _ (fault_found _ _ c.in_err-o.ensures)))

pub returns-in_err-k : goal.returns-in_err-k
returns-in_err-k c =
    handed_on c.from_residual-in_err-k.ensures.1
    (found_fault _ (outputs_no_k _ _ _ _ _ (found_value _ c.in_ok-o.ensures) _ (fault_found _ _ c.in_err-k.ensures)))

pub returns-then-byte_at-ne-LINE_END : goal.returns-then-byte_at-ne-LINE_END
returns-then-byte_at-ne-LINE_END c =
    found_fault _ (outputs_no_end _ _ _ _ _ (found_value _ c.in_ok-o.ensures) _ _ (found_value _ c.in_ok-k.ensures)
    (λ e. c.if-byte_at-ne-LINE_END.true (c.byte_at.ensures ∙ e)))

pub overflow_add-result : goal.overflow_add-result
overflow_add-result c = omega (arith, byte_within _ _ _ (sym c.byte_at.ensures ∙ c.if-byte_at-ne-LINE_END.false) (omega arith))

pub returns : goal.returns
returns c =
    found_got _ (outputs_got _ _ _ _ _ (found_value _ c.in_ok-o.ensures) _ _ (found_value _ c.in_ok-k.ensures)
    (sym c.byte_at.ensures ∙ c.if-byte_at-ne-LINE_END.false))
