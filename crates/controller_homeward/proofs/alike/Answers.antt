-- `alike` visits the members of x.
use Rattle.bits.proofs.Visit.{within_start, collected_small, collected_below, collected_next, collected_end}
use Rattle.sets.specs.Words.{capacity}
use Rattle.controller_homeward.proofs.Homeward.{alike_at_lem}
use Rattle.controller_homeward.proofs.alike.Goals as goal

pub loop-j-init : goal.loop-j-init
loop-j-init c =
    let all = c.into_iter-j-iterator.ensures.into_iter_gives in
    let p = c.requires in
    rw (all, c.empty-y.ensures.1) (within_start capacity _ _ _ p.0 p.3)

pub lower-own-requires : goal.lower-own-requires
lower-own-requires c =
    let w = c.in-Some.ensures.steps in
    let p = c.requires in
    (p.0, collected_below capacity _ _ _ _ _ c.loop-j.invariant w.some _ w.lowest, p.1, p.2)

pub insert_if-y-requires : goal.insert_if-y-requires
insert_if-y-requires c =
    let w = c.in-Some.ensures.steps in
    collected_small capacity _ _ _ _ _ c.loop-j.invariant w.some _ w.lowest

pub loop-j-preserved : goal.loop-j-preserved
loop-j-preserved c =
    let w = c.in-Some.ensures.steps in
    collected_next capacity _ _ _ _ _ c.loop-j.invariant w.some _ w.lowest _ w.others
    (alike_at_lem _ _ _ _ _ _ c.lower-own.ensures c.same.ensures)
    c.insert_if-y.ensures

pub returns : goal.returns
returns c =
    let all = c.into_iter-j-iterator.ensures.into_iter_gives in
    collected_end capacity _ _ _ _ _ (rw all at c.loop-j.invariant) c.in-None.ensures.steps.0
