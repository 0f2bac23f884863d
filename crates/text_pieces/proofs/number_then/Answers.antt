-- `number_then` meets its contract.
use mathlib.Core.Path.{sym, ◌∙◌}
use native.Mathlib.Omega.{arith}
use borrow.Author.Rules.{rules}
use Rattle.text_grammar.proofs.Place.{byte_within}
use Rattle.text_pieces.proofs.Steps.{then_got, then_miss, then_fault}
use Rattle.text_pieces.proofs.Outcomes.{found_got, found_fault, found_value, fault_found, handed_on}
use Rattle.text_pieces.proofs.number_then.Goals as goal

pub returns-in_err-n : goal.returns-in_err-n
returns-in_err-n c = handed_on c.from_residual.ensures.1 (found_fault _ (then_fault _ _ _ _ _ _ (fault_found _ _ c.in_err-n.ensures)))

pub overflow_add-result : goal.overflow_add-result
overflow_add-result c = omega (arith, byte_within _ _ _ (sym c.byte_at.ensures ∙ c.if-byte_at-b.true) (search rules))

pub returns-then-byte_at-b : goal.returns-then-byte_at-b
returns-then-byte_at-b c =
    found_got _ (then_got _ _ _ _ _ _ _ (found_value _ c.in_ok-n.ensures) (sym c.byte_at.ensures ∙ c.if-byte_at-b.true))

pub returns : goal.returns
returns c = found_fault _ (then_miss _ _ _ _ _ _ _ (found_value _ c.in_ok-n.ensures) (λ e. c.if-byte_at-b.false (c.byte_at.ensures ∙ e)))
