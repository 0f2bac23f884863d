-- `outputs_at` meets its contract.
use Rattle.text_pieces.proofs.Outcomes.{found_got, found_fault, found_value, fault_found, handed_on}
use Rattle.text_scan.proofs.WholeSteps.{got_graph, output_none, output_bad, output_got}
use Rattle.text_scan.proofs.whole.outputs_at.Goals as goal

pub returns-in_err-b : goal.returns-in_err-b
returns-in_err-b c = handed_on c.from_residual.ensures.1 (found_fault _ (output_none _ _ _ _ _ _ (fault_found _ _ c.in_err-b.ensures)))

pub returns-in_err-qs : goal.returns-in_err-qs
returns-in_err-qs c =
    handed_on c.from_residual-in_err-qs.ensures.1
    (found_fault _ (output_bad _ _ _ _ _ _ _ (got_graph _ c.in_ok-b.ensures).0 _ (fault_found _ _ c.in_err-qs.ensures)))

pub returns : goal.returns
returns c =
    let read = got_graph _ c.in_ok-b.ensures in
    found_got _ (output_got _ _ _ _ _ _ _ read.0 _ read.1 _ _ (found_value _ c.in_ok-qs.ensures))
