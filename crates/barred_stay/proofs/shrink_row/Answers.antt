-- `shrink_row`.
use mathlib.Core.Path.{sym, ◌∙◌}
use native.Mathlib.Omega.{arith}
use Rattle.sets.proofs.Rows.{sets_long, none, some}
use Rattle.barred_stay.proofs.Rows.{row_same, row_waited, row_left}
use Rattle.barred_stay.proofs.shrink_row.Goals as goal

pub returns-then-is_empty : goal.returns-then-is_empty
returns-then-is_empty c =
    row_same _ _ _ _ _ _ _ c.row-old.ensures c.difference-lost.ensures (none _ c.is_empty.ensures c.if-is_empty.true)

pub returns-then-member : goal.returns-then-member
returns-then-member c =
    rw c.put.ensures
    (row_waited _ _ _ _ _ _ _ c.row-old.ensures c.difference-lost.ensures _ c.difference.ensures
    (omega (arith, c.requires.1, sets_long c.args.s.now)) (sym c.member.ensures ∙ c.if-member.true))

pub returns : goal.returns
returns c =
    rw c.put.ensures
    (row_left _ _ _ _ _ _ _ c.row-old.ensures c.difference-lost.ensures _ c.difference.ensures
    (omega (arith, c.requires.1, sets_long c.args.s.now)) (some _ c.is_empty.ensures c.if-is_empty.false) _ c.insert.ensures
    (sym c.member.ensures ∙ c.if-member.false))
