-- `bottom` goes down from the first input that is left.
use mathlib.Core.Path.{refl}
use Rattle.sets.proofs.Rows.{none, some}
use Rattle.region_rows.proofs.Down.{first_below, descending_start, descending_end}
use native.Mathlib.Omega.{arith}
use Rattle.region_rows.proofs.bottom.Goals as goal

pub in_reach-row-requires : goal.in_reach-row-requires
in_reach-row-requires g c =
    let known = rw (← c.requires.0) at c.requires.1 in
    let p = known in
    omega (arith, p.1.long, first_below _ _ p.0 p.1 _ p.2 p.3 _ c.lowest-first.ensures)

pub loop-z-init : goal.loop-z-init
loop-z-init g c =
    let known = rw (← c.requires.0) at c.requires.1 in
    let p = known in
    descending_start _ _ p.0 p.1 _ p.2 p.3 _ _ _ c.lowest-first.ensures c.in_reach-row.ensures c.intersection.ensures

pub descend-d-requires : goal.descend-d-requires
descend-d-requires g c =
    let known = rw (← c.requires.0) at c.requires.1 in
    let p = known in
    (refl, (p.0, p.1, p.2, c.loop-z.invariant, some _ c.is_empty.ensures c.if-is_empty.false))

pub loop-z-smaller : goal.loop-z-smaller
loop-z-smaller g c =
    c.descend-d.ensures.1

pub loop-z-preserved : goal.loop-z-preserved
loop-z-preserved g c =
    c.descend-d.ensures.0

pub returns : goal.returns
returns g c =
    let known = rw (← c.requires.0) at c.requires.1 in
    rw (← c.requires.0) (
    let p = known in
    descending_end _ _ p.0 p.1 _ p.2 _ c.loop-z.invariant (none _ c.is_empty.ensures c.if-is_empty.true))
