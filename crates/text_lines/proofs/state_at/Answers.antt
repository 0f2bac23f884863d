-- `state_at` meets its contract.
use mathlib.Core.Path.{sym, ◌∙◌, ap}
use Rattle.text_lines.proofs.LineSteps.{state_no_word, state_no_number, state_on}
use Rattle.text_lines.specs.Lines.{state_of}
use Rattle.text_pieces.proofs.Outcomes.{at_step, fault_step, found_fault, found_value, fault_found, handed_on}
use Rattle.text_lines.proofs.state_at.Goals as goal

pub returns-in_err-j : goal.returns-in_err-j
returns-in_err-j c = handed_on c.from_residual.ensures.1 (found_fault _ (state_no_word _ _ _ _ _ (fault_step _ c.in_err-j.ensures)))

pub returns-in_err-n : goal.returns-in_err-n
returns-in_err-n c =
    handed_on c.from_residual-in_err-n.ensures.1
    (found_fault _ (state_no_number _ _ _ _ _ (at_step _ c.in_ok-j.ensures) _ (fault_found _ _ c.in_err-n.ensures)))

pub returns : goal.returns
returns c =
    c.row_at.ensures ∙ sym (ap state_of (state_on _ _ _ _ _ (at_step _ c.in_ok-j.ensures) _ _ (found_value _ c.in_ok-n.ensures)))
