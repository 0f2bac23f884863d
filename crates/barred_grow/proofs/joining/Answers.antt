-- `joining`.
use native.Mathlib.Omega.{arith}
use Rattle.sets.proofs.Rows.{none}
use Rattle.barred_grow.proofs.Rows.{joining_low, joining_next, joining_none, joining_end, inside_low, lowest_low}
use Rattle.barred_grow.proofs.joining.Goals as goal

pub row-requires : goal.row-requires
row-requires c =
    omega (arith, c.requires.0, c.requires.1, c.requires.2)

pub row_of-t-items-requires : goal.row_of-t-items-requires
row_of-t-items-requires c =
    omega (arith, c.requires.0, c.requires.1)

pub returns-then-is_empty : goal.returns-then-is_empty
returns-then-is_empty c =
    let all = c.into_iter-t-iterator.ensures.into_iter_gives in
    joining_none _ _ _ _ _ (rw all at c.loop-t.invariant) _ c.row_of-t-items.ensures.1 (none _ c.is_empty.ensures c.if-is_empty.true)

pub overflow_add-t : goal.overflow_add-t
overflow_add-t c =
    let all = c.into_iter-t-iterator.ensures.into_iter_gives in
    let w = c.in-Some.ensures.steps in
    let inside = inside_low _ _ _ c.requires.3 _ c.requires.1 c.row_of-t-items.ensures.1 in
    let low = lowest_low _ _ c.requires.0 (joining_low _ _ _ _ _ (rw all at c.loop-t.invariant) _ inside) w.some _ w.lowest in
    omega (arith, c.requires.0, low)

pub row-requires-in-loop-t : goal.row-requires-in-loop-t
row-requires-in-loop-t c =
    let all = c.into_iter-t-iterator.ensures.into_iter_gives in
    let w = c.in-Some.ensures.steps in
    let inside = inside_low _ _ _ c.requires.3 _ c.requires.1 c.row_of-t-items.ensures.1 in
    let low = lowest_low _ _ c.requires.0 (joining_low _ _ _ _ _ (rw all at c.loop-t.invariant) _ inside) w.some _ w.lowest in
    omega (arith, c.requires.0, c.requires.2, low)

pub loop-t-preserved : goal.loop-t-preserved
loop-t-preserved c =
    let w = c.in-Some.ensures.steps in
    joining_next _ _ _ _ _ c.loop-t.invariant _ _ w.lowest w.others _ _ c.row-in-loop-t.ensures c.intersection-x.ensures

pub returns : goal.returns
returns c =
    let all = c.into_iter-t-iterator.ensures.into_iter_gives in
    joining_end _ _ _ _ _ (rw all at c.loop-t.invariant) _ c.row_of-t-items.ensures.1 c.in-None.ensures.steps.0
