-- `members_at` meets its contract.
use mathlib.Core.Path.{sym, ◌∙◌, ap}
use native.Mathlib.Omega.{arith}
use Rattle.sets.proofs.Rows.{set_is}
use Rattle.text_pieces.proofs.Steps.{members_none, members_begun, members_wrong}
use Rattle.text_pieces.specs.Pieces.{set_scan_of}
use Rattle.text_grammar.proofs.Number.{number_range}
use Rattle.text_grammar.proofs.Place.{byte_within}
use Rattle.text_pieces.proofs.Outcomes.{found_fault, found_value, fault_found, whole_members, handed_on}
use Rattle.text_pieces.proofs.members_at.Goals as goal

pub overflow_add-result : goal.overflow_add-result
overflow_add-result c = omega (arith, byte_within _ _ _ (sym c.byte_at.ensures ∙ c.if-byte_at-eq-CLOSE.true) (omega arith))

pub returns-then-byte_at-eq-CLOSE : goal.returns-then-byte_at-eq-CLOSE
returns-then-byte_at-eq-CLOSE c =
    whole_members (set_is _ (omega (arith, c.empty.type_inv)))
    (members_none _ _ _ (sym c.byte_at.ensures ∙ c.if-byte_at-eq-CLOSE.true) c.empty.ensures.1)

pub returns-in_err-n : goal.returns-in_err-n
returns-in_err-n c =
    handed_on c.from_residual.ensures.1
    (found_fault _ (members_wrong _ _ _ (λ e. c.if-byte_at-eq-CLOSE.false (c.byte_at.ensures ∙ e)) (fault_found _ _ c.in_err-n.ensures)))

pub overflow_add-n : goal.overflow_add-n
overflow_add-n c = omega (arith, number_range _ _ _ _ _ _ (found_value _ c.in_ok-n.ensures))

pub insert-requires : goal.insert-requires
insert-requires c = omega (arith, number_range _ _ _ _ _ _ (found_value _ c.in_ok-n.ensures))

pub more_members-requires : goal.more_members-requires
more_members-requires c = omega (arith, number_range _ _ _ _ _ _ (found_value _ c.in_ok-n.ensures))

pub returns : goal.returns
returns c =
    c.more_members.ensures ∙ sym (ap set_scan_of (members_begun _ _ _ _ _ _ (λ e. c.if-byte_at-eq-CLOSE.false (c.byte_at.ensures ∙ e))
    (found_value _ c.in_ok-n.ensures) c.empty-2.ensures.1 c.insert.ensures))
