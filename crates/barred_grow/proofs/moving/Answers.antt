-- `moving`.
use native.Mathlib.Omega.{arith}
use Rattle.barred_grow.proofs.Rows.{lowest_low, rest_low}
use Rattle.barred_grow.proofs.moving.Goals as goal

pub overflow_add-t : goal.overflow_add-t
overflow_add-t c =
    let w = c.in-Some.ensures.steps in
    let low = lowest_low _ _ c.requires.0 c.loop-t.invariant w.some _ w.lowest in
    omega (arith, low)

pub row-requires : goal.row-requires
row-requires c =
    let w = c.in-Some.ensures.steps in
    let low = lowest_low _ _ c.requires.0 c.loop-t.invariant w.some _ w.lowest in
    omega (arith, c.requires.1, low)

pub loop-t-preserved : goal.loop-t-preserved
loop-t-preserved c =
    let w = c.in-Some.ensures.steps in
    rest_low _ _ c.requires.0 c.loop-t.invariant w.some _ w.lowest _ w.others
