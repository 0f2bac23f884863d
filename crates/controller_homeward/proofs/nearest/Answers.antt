-- `nearest` visits the members of x that are no homes.
use Prim.Native.Nat.{◌<◌}
use native.Mathlib.Omega.{arith}
use Rattle.bits.proofs.Visit.{whole_start, whole_end, collected_small, collected_below, collected_next}
use Rattle.sets.specs.Words.{capacity}
use Rattle.controller_homeward.proofs.Homeward.{avoid_at, avoid_homes, left_below}
use Rattle.controller_homeward.proofs.nearest.Goals as goal

pub loop-o-init : goal.loop-o-init
loop-o-init c =
    let all = c.into_iter-o-iterator.ensures.into_iter_gives in
    let p = c.requires in
    rw (all, c.empty-y.ensures.1) (whole_start capacity _ _ _ p.1 (left_below _ _ _ _ p.3 c.difference-o-items.ensures))

pub out_reach-reach-requires : goal.out_reach-reach-requires
out_reach-reach-requires c =
    let w = c.in-Some.ensures.steps in
    let small : c.in-Some.o < capacity = collected_small capacity _ _ _ _ _ c.loop-o.invariant w.some _ w.lowest in
    let p = c.requires in
    let b = collected_below capacity _ _ _ _ _ c.loop-o.invariant w.some _ w.lowest in
    (p.0, small, omega (arith, b, p.2))

pub insert_if-y-requires : goal.insert_if-y-requires
insert_if-y-requires c =
    let w = c.in-Some.ensures.steps in
    collected_small capacity _ _ _ _ _ c.loop-o.invariant w.some _ w.lowest

pub loop-o-preserved : goal.loop-o-preserved
loop-o-preserved c =
    let w = c.in-Some.ensures.steps in
    collected_next capacity _ _ _ _ _ c.loop-o.invariant w.some _ w.lowest _ w.others
    (avoid_at _ _ _ _ _ c.out_reach-reach.ensures c.meets.ensures)
    c.insert_if-y.ensures

pub returns : goal.returns
returns c =
    let all = c.into_iter-o-iterator.ensures.into_iter_gives in
    let p = c.requires in
    let every = whole_end capacity _ _ _ _ _ (rw all at c.loop-o.invariant) c.in-None.ensures.steps.0
    (left_below _ _ _ _ p.3 c.difference-o-items.ensures) in
    avoid_homes _ _ _ _ _ _ _ p.1 p.3 p.4 c.difference-o-items.ensures every
