-- `marked` meets its contract.
use mathlib.Core.Path.{sym, ◌∙◌}
use native.Mathlib.Omega.{arith}
use Rattle.sets.proofs.Rows.{set_is}
use Rattle.text_pieces.proofs.Steps.{insert_is}
use Rattle.text_shape.proofs.Graphs.{mark_on, mark_off}
use Rattle.text_scan.proofs.whole.marked.Goals as goal

pub returns-then-f-eq1 : goal.returns-then-f-eq1
returns-then-f-eq1 c = (insert_is _ _ _ c.insert.ensures ∙ sym (mark_on _ _ _ c.if-f-eq1.true), set_is _ (omega (arith, c.insert.type_inv)))

pub returns : goal.returns
returns c = (sym (mark_off _ _ _ c.if-f-eq1.false), set_is _ (omega arith))
