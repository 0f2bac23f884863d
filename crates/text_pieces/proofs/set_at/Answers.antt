-- `set_at` meets its contract.
use mathlib.Core.Path.{sym, ◌∙◌, ap}
use native.Mathlib.Omega.{arith}
use Rattle.text_pieces.proofs.Steps.{set_on, set_off}
use Rattle.text_pieces.specs.Pieces.{set_scan_of}
use Rattle.text_grammar.proofs.Place.{byte_within}
use Rattle.text_pieces.proofs.Outcomes.{found_fault}
use Rattle.text_pieces.proofs.set_at.Goals as goal

pub overflow_add-i : goal.overflow_add-i
overflow_add-i c = omega (arith, byte_within _ _ _ (sym c.byte_at.ensures ∙ c.if-byte_at-eq-OPEN.true) (omega arith))

pub returns-then-byte_at-eq-OPEN : goal.returns-then-byte_at-eq-OPEN
returns-then-byte_at-eq-OPEN c = c.members_at.ensures ∙ sym (ap set_scan_of (set_on _ _ (sym c.byte_at.ensures ∙ c.if-byte_at-eq-OPEN.true)))

pub returns : goal.returns
returns c = found_fault _ (set_off _ _ (λ e. c.if-byte_at-eq-OPEN.false (c.byte_at.ensures ∙ e)))
