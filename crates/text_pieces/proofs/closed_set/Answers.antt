-- `closed_set` meets its contract.
use mathlib.Core.Path.{sym, ◌∙◌}
use native.Mathlib.Omega.{arith}
use Rattle.sets.proofs.Rows.{set_is}
use Rattle.text_pieces.proofs.Steps.{lit_got}
use Rattle.text_pieces.proofs.Outcomes.{found_fault, whole_members}
use Rattle.text_grammar.proofs.Place.{byte_within}
use Rattle.text_grammar.proofs.Format.{run_lit_fault}
use Rattle.text_pieces.proofs.closed_set.Goals as goal

pub overflow_add-result : goal.overflow_add-result
overflow_add-result c = omega (arith, byte_within _ _ _ (sym c.byte_at.ensures ∙ c.if-byte_at-eq-CLOSE.true) (omega arith))

pub returns-then-byte_at-eq-CLOSE : goal.returns-then-byte_at-eq-CLOSE
returns-then-byte_at-eq-CLOSE c = whole_members (set_is _ (omega arith)) (lit_got 41 _ _ _ (sym c.byte_at.ensures ∙ c.if-byte_at-eq-CLOSE.true))

pub returns : goal.returns
returns c = found_fault _ (run_lit_fault 41 _ _ _ (λ e. c.if-byte_at-eq-CLOSE.false (c.byte_at.ensures ∙ e)))
