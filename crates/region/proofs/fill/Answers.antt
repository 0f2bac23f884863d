-- `fill`. Invariant: the rows of the inputs that are not left stand.
use mathlib.Core.Path.{refl}
use Rattle.sets.proofs.Rows.{is_some, is_none}
use Rattle.region_rows.proofs.Order.{kept_none, kept_more, filling_done}
use Rattle.region.proofs.Parts.{filling_first}
use Rattle.region.proofs.fill.Goals as goal

pub below-requires : goal.below-requires
below-requires g c =
    let known = rw (← c.requires.0) at c.requires.1 in
    known.0.input.most

pub loop-z-init : goal.loop-z-init
loop-z-init g c =
    let known = rw (← c.requires.0) at c.requires.1 in
    let p = known in (filling_first p.0 p.1 _ p.2 _ c.below.ensures, kept_none _ _)

pub fill_component-left-requires : goal.fill_component-left-requires
fill_component-left-requires g c =
    let known = rw (← c.requires.0) at c.requires.1 in
    let p = known in
    (refl, (c.loop-z.invariant.0, p.3, is_some _ c.is_empty.ensures c.loop-z-test.true-raw))

pub loop-z-smaller : goal.loop-z-smaller
loop-z-smaller g c =
    c.fill_component-left.ensures.2

pub loop-z-preserved : goal.loop-z-preserved
loop-z-preserved g c =
    (c.fill_component-left.ensures.0, kept_more c.loop-z.invariant.1 c.fill_component-left.ensures.1)

pub shape_of-s : goal.shape_of-s
shape_of-s g c =
    c.loop-z.invariant.1.long

pub returns : goal.returns
returns g c =
    rw (← c.requires.0) (
    (filling_done c.loop-z.invariant.0 (is_none _ c.is_empty.ensures c.loop-z-test.false-raw), c.loop-z.invariant.1))
