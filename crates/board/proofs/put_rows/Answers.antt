-- `put_rows`. Invariant: the first i words are written.
use native.Mathlib.Omega.{arith}
use Rattle.board.proofs.Laying.{rows_none, rows_next, rows_all}
use Rattle.board.proofs.put_rows.Goals as goal

pub loop-i-init : goal.loop-i-init
loop-i-init c = (omega arith, rows_none _ _ _)

pub overflow_add-b : goal.overflow_add-b
overflow_add-b c = omega (arith, c.requires.0)

pub offset_bounds-b-at : goal.offset_bounds-b-at
offset_bounds-b-at c = omega (arith, c.requires.0)

pub bounds-b-at : goal.bounds-b-at
bounds-b-at c = omega (arith, c.requires.0)

pub loop-i-preserved : goal.loop-i-preserved
loop-i-preserved c =
    let p = c.requires in
    (omega arith, rows_next _ _ _ c.loop-i.i _ (omega (arith, p.0, p.1)) c.loop-i.invariant.1)

pub returns : goal.returns
returns c = rows_all _ _ _ c.loop-i.i _ c.loop-i.invariant.0 (omega arith) c.loop-i.invariant.1
