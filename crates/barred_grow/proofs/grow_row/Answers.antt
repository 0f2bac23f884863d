-- `grow_row`.
use native.Mathlib.Omega.{arith}
use Rattle.sets.proofs.Rows.{sets_long, some}
use Rattle.barred_grow.proofs.Rows.{grown_self, grown_row}
use Rattle.barred_grow.proofs.grow_row.Goals as goal

pub returns-then-is_empty : goal.returns-then-is_empty
returns-then-is_empty c =
    λ outs v. grown_self _ _ _ _ c.requires.0 _ _

pub returns : goal.returns
returns c =
    λ outs v. rw c.put.ensures
    (grown_row _ _ _ _ c.requires.0 _ _ _ _ _ _ _ c.joining-more.ensures c.requires.3 c.requires.1
    (some _ c.is_empty.ensures c.if-is_empty.false) (omega (arith, c.requires.0, c.requires.1, c.requires.2, sets_long c.args.s.now)) c.row.ensures c.union.ensures c.insert.ensures)
