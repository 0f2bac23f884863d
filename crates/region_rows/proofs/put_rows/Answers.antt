-- `put_rows`. Invariant: the rows of the inputs of a stand, but those of `rest`.
use Rattle.sets.proofs.Rows.{count_same}
use Rattle.region_rows.proofs.Rows.{putting_below, putting_next, putting_end}
use native.Mathlib.Omega.{arith}
use Rattle.region_rows.proofs.put_rows.Goals as goal

pub put_region_row-requires : goal.put_region_row-requires
put_region_row-requires c =
    let w = c.in-Some.ensures.steps in
    let p = c.requires in
    let below = putting_below _ _ _ _ p.0 p.1 _ _ c.loop-i.invariant w.some _ w.lowest in
    (p.0, below, omega (arith, p.2, count_same c.loop-i.s c.args.s.now c.loop-i.invariant.long))

pub loop-i-preserved : goal.loop-i-preserved
loop-i-preserved c =
    let w = c.in-Some.ensures.steps in
    let p = c.requires in
    putting_next _ _ _ _ p.0 p.1 _ _ c.loop-i.invariant w.some _ w.lowest _ w.others _ c.put_region_row.ensures

pub returns : goal.returns
returns c =
    putting_end _ _ _ _ _ _ c.loop-i.invariant c.in-None.ensures.steps.0
