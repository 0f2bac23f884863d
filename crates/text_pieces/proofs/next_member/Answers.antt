-- `next_member` meets its contract.
use mathlib.Core.Path.{sym, ◌∙◌}
use native.Mathlib.Omega.{arith}
use Rattle.text_grammar.proofs.Place.{byte_within}
use Rattle.text_pieces.proofs.Steps.{next_closed, next_fault, next_member_lem, next_none}
use Rattle.text_pieces.proofs.Outcomes.{found_value, fault_found, handed_on}
use Rattle.text_pieces.proofs.next_member.Goals as goal

pub returns-then-b-eq-CLOSE : goal.returns-then-b-eq-CLOSE
returns-then-b-eq-CLOSE c = next_closed _ _ _ (sym c.byte_at-b.ensures ∙ c.if-b-eq-CLOSE.true)

pub overflow_add-i : goal.overflow_add-i
overflow_add-i c = omega (arith, byte_within _ _ _ (sym c.byte_at-b.ensures ∙ c.if-b-eq-BLANK.true) (omega arith))

pub returns-in_err-n : goal.returns-in_err-n
returns-in_err-n c =
    handed_on c.from_residual.ensures.1
    (next_fault _ _ _ _ (sym c.byte_at-b.ensures ∙ c.if-b-eq-BLANK.true) (fault_found _ _ c.in_err-n.ensures))

pub returns-then-b-eq-BLANK : goal.returns-then-b-eq-BLANK
returns-then-b-eq-BLANK c =
    next_member_lem _ _ _ _ _ (sym c.byte_at-b.ensures ∙ c.if-b-eq-BLANK.true) (found_value _ c.in_ok-n.ensures)

pub returns : goal.returns
returns c =
    next_none _ _ _ (λ e. c.if-b-eq-CLOSE.false (c.byte_at-b.ensures ∙ e)) (λ e. c.if-b-eq-BLANK.false (c.byte_at-b.ensures ∙ e))
