-- `requirement_at` meets its contract.
use mathlib.Core.Path.{sym, ◌∙◌, ap}
use Rattle.text_scan.proofs.SetListSteps.{got_list, list_four, if_no_word, if_no_first, if_on}
use Rattle.text_scan.specs.Scan.{requirement_of}
use Rattle.text_pieces.proofs.Outcomes.{at_step, fault_step, found_fault, fault_found, handed_on}
use Rattle.text_scan.proofs.set_lists.requirement_at.Goals as goal

pub returns-in_err-j : goal.returns-in_err-j
returns-in_err-j c = handed_on c.from_residual.ensures.1 (found_fault _ (if_no_word _ _ _ (fault_step _ c.in_err-j.ensures)))

pub returns-in_err-a : goal.returns-in_err-a
returns-in_err-a c =
    handed_on c.from_residual-in_err-a.ensures.1
    (found_fault _ (if_no_first _ _ _ (at_step _ c.in_ok-j.ensures) _ (fault_found _ _ c.in_err-a.ensures)))

pub guarantees_at-requires : goal.guarantees_at-requires
guarantees_at-requires c = list_four _ _ c.in_ok-a.ensures

pub returns : goal.returns
returns c =
    c.guarantees_at.ensures ∙ sym (ap requirement_of (if_on _ _ _ (at_step _ c.in_ok-j.ensures) _ _ (got_list _ c.in_ok-a.ensures).0))
