-- `guarantees_at` meets its contract.
use mathlib.Core.Path.{sym, ◌∙◌}
use native.Mathlib.Omega.{arith}
use Rattle.text_scan.proofs.SetListSteps.{got_list, list_four, if_no_blank, if_no_list, if_no_end, if_got}
use Rattle.text_grammar.proofs.Place.{byte_within}
use Rattle.text_pieces.proofs.Outcomes.{at_step, fault_step, found_got, found_fault, fault_found, handed_on}
use Rattle.text_scan.proofs.set_lists.guarantees_at.Goals as goal

pub returns-then-byte_at-ne-BLANK : goal.returns-then-byte_at-ne-BLANK
returns-then-byte_at-ne-BLANK c = found_fault _ (if_no_blank _ _ _ (λ e. c.if-byte_at-ne-BLANK.true (c.byte_at.ensures ∙ e)))

pub overflow_add-i : goal.overflow_add-i
overflow_add-i c = omega (arith, byte_within _ _ _ (sym c.byte_at.ensures ∙ c.if-byte_at-ne-BLANK.false) (omega arith))

pub returns-in_err-b : goal.returns-in_err-b
returns-in_err-b c =
    handed_on c.from_residual.ensures.1
    (found_fault _ (if_no_list _ _ _ (sym c.byte_at.ensures ∙ c.if-byte_at-ne-BLANK.false) _ (fault_found _ _ c.in_err-b.ensures)))

pub returns-in_err-end : goal.returns-in_err-end
returns-in_err-end c =
    handed_on c.from_residual-in_err-end.ensures.1
    (found_fault _ (if_no_end _ _ _ (sym c.byte_at.ensures ∙ c.if-byte_at-ne-BLANK.false) _ _ (got_list _ c.in_ok-b.ensures).0 _
    (fault_step _ c.in_err-end.ensures)))

pub out_sets-requires : goal.out_sets-requires
out_sets-requires c = list_four _ _ c.in_ok-b.ensures

pub returns : goal.returns
returns c =
    found_got _ (if_got _ _ _ (sym c.byte_at.ensures ∙ c.if-byte_at-ne-BLANK.false) _ _ (got_list _ c.in_ok-b.ensures).0 _
    (at_step _ c.in_ok-end.ensures) _ _ c.in_sets.ensures c.out_sets.ensures)
