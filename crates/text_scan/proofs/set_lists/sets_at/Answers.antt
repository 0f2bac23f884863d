-- `sets_at` meets its contract.
use mathlib.Core.Path.{sym, ◌∙◌, ap}
use native.Mathlib.Omega.{arith}
use Rattle.text_scan.proofs.SetListSteps.{empty_whole, list_got, list_closed, list_empty, list_bad, list_on}
use Rattle.sets.proofs.Rows.{set_is}
use Rattle.text_scan.specs.Scan.{sets_of}
use Rattle.text_grammar.proofs.Place.{byte_within}
use Rattle.text_pieces.proofs.Outcomes.{found_fault, fault_found, members_set, handed_on}
use Rattle.text_scan.proofs.set_lists.sets_at.Goals as goal

pub returns-then-byte_at-ne-OPEN : goal.returns-then-byte_at-ne-OPEN
returns-then-byte_at-ne-OPEN c = found_fault _ (list_closed _ _ (λ e. c.if-byte_at-ne-OPEN.true (c.byte_at.ensures ∙ e)))

pub overflow_add-j : goal.overflow_add-j
overflow_add-j c = omega (arith, byte_within _ _ _ (sym c.byte_at.ensures ∙ c.if-byte_at-ne-OPEN.false) (omega arith))

pub overflow_add-result : goal.overflow_add-result
overflow_add-result c = omega (arith, byte_within _ _ _ (sym c.byte_at-2.ensures ∙ c.if-byte_at-eq-CLOSE.true) (omega arith))

pub returns-then-byte_at-eq-CLOSE : goal.returns-then-byte_at-eq-CLOSE
returns-then-byte_at-eq-CLOSE c =
    list_got (empty_whole _ (set_is _ (omega (arith, c.empty-none.type_inv))))
    (list_empty _ _ (sym c.byte_at.ensures ∙ c.if-byte_at-ne-OPEN.false) (sym c.byte_at-2.ensures ∙ c.if-byte_at-eq-CLOSE.true) _
    c.empty-none.ensures.1)

pub returns-in_err-x : goal.returns-in_err-x
returns-in_err-x c =
    handed_on c.from_residual.ensures.1
    (found_fault _ (list_bad _ _ (sym c.byte_at.ensures ∙ c.if-byte_at-ne-OPEN.false)
    (λ e. c.if-byte_at-eq-CLOSE.false (c.byte_at-2.ensures ∙ e)) _ (fault_found _ _ c.in_err-x.ensures)))

pub returns : goal.returns
returns c =
    c.more_sets.ensures ∙ sym (ap sets_of (list_on _ _ (sym c.byte_at.ensures ∙ c.if-byte_at-ne-OPEN.false)
    (λ e. c.if-byte_at-eq-CLOSE.false (c.byte_at-2.ensures ∙ e)) _ _ (members_set _ c.in_ok-x.ensures).0))
