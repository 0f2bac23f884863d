-- `end_at` meets its contract.
use mathlib.Core.Path.{sym, ◌∙◌}
use native.Mathlib.Omega.{arith}
use Rattle.text_lines.proofs.LineSteps.{end_first, end_second, end_both}
use Rattle.text_grammar.proofs.Place.{byte_within}
use Rattle.text_pieces.proofs.Outcomes.{step_at, step_fault}
use Rattle.text_lines.proofs.end_at.Goals as goal

pub returns-then-byte_at-ne-CLOSE : goal.returns-then-byte_at-ne-CLOSE
returns-then-byte_at-ne-CLOSE c = step_fault (end_first _ _ (λ e. c.if-byte_at-ne-CLOSE.true (c.byte_at.ensures ∙ e)))

pub overflow_add-j : goal.overflow_add-j
overflow_add-j c = omega (arith, byte_within _ _ _ (sym c.byte_at.ensures ∙ c.if-byte_at-ne-CLOSE.false) (omega arith))

pub returns-then-byte_at-ne-LINE_END : goal.returns-then-byte_at-ne-LINE_END
returns-then-byte_at-ne-LINE_END c =
    step_fault (end_second _ _ (sym c.byte_at.ensures ∙ c.if-byte_at-ne-CLOSE.false)
    (λ e. c.if-byte_at-ne-LINE_END.true (c.byte_at-2.ensures ∙ e)))

pub overflow_add-result : goal.overflow_add-result
overflow_add-result c = omega (arith, byte_within _ _ _ (sym c.byte_at-2.ensures ∙ c.if-byte_at-ne-LINE_END.false) (omega arith))

pub returns : goal.returns
returns c =
    step_at (end_both _ _ (sym c.byte_at.ensures ∙ c.if-byte_at-ne-CLOSE.false)
    (sym c.byte_at-2.ensures ∙ c.if-byte_at-ne-LINE_END.false))
