-- `row_at` meets its contract.
use Rattle.text_lines.proofs.LineSteps.{state_moves, row_no_flag, row_no_set, row_no_end, row_got}
use Rattle.text_pieces.proofs.Outcomes.{at_step, fault_step, found_fault, found_value, fault_found, members_set, handed_on}
use Rattle.text_lines.proofs.row_at.Goals as goal

pub returns-in_err-f : goal.returns-in_err-f
returns-in_err-f c = handed_on c.from_residual.ensures.1 (found_fault _ (row_no_flag _ _ _ (fault_found _ _ c.in_err-f.ensures)))

pub returns-in_err-x : goal.returns-in_err-x
returns-in_err-x c =
    handed_on c.from_residual-in_err-x.ensures.1
    (found_fault _ (row_no_set _ _ _ _ (found_value _ c.in_ok-f.ensures) _ (fault_found _ _ c.in_err-x.ensures)))

pub returns-in_err-end : goal.returns-in_err-end
returns-in_err-end c =
    handed_on c.from_residual-in_err-end.ensures.1
    (found_fault _ (row_no_end _ _ _ _ (found_value _ c.in_ok-f.ensures) _ _ (members_set _ c.in_ok-x.ensures).0 _
    (fault_step _ c.in_err-end.ensures)))

pub returns : goal.returns
returns c =
    let read = members_set _ c.in_ok-x.ensures in
    state_moves read.1 (row_got _ _ _ _ (found_value _ c.in_ok-f.ensures) _ _ read.0 _ (at_step _ c.in_ok-end.ensures))
