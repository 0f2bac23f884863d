-- `header_at` meets its contract.
use mathlib.Core.Path.{sym, ◌∙◌, ap}
use Rattle.text_lines.proofs.LineSteps.{header_no_word, header_no_inputs, header_on}
use Rattle.text_lines.specs.Lines.{header_of}
use Rattle.text_pieces.proofs.Outcomes.{at_step, fault_step, found_fault, found_value, fault_found, handed_on}
use Rattle.text_lines.proofs.header_at.Goals as goal

pub returns-in_err-j : goal.returns-in_err-j
returns-in_err-j c = handed_on c.from_residual.ensures.1 (found_fault _ (header_no_word _ _ _ (fault_step _ c.in_err-j.ensures)))

pub returns-in_err-a : goal.returns-in_err-a
returns-in_err-a c =
    handed_on c.from_residual-in_err-a.ensures.1
    (found_fault _ (header_no_inputs _ _ _ (at_step _ c.in_ok-j.ensures) _ (fault_found _ _ c.in_err-a.ensures)))

pub returns : goal.returns
returns c =
    c.outputs_at.ensures ∙ sym (ap header_of (header_on _ _ _ (at_step _ c.in_ok-j.ensures) _ _ (found_value _ c.in_ok-a.ensures)))
