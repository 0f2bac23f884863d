-- `lost` visits the members of x.
use Prim.Native.Nat.{◌<◌}
use Rattle.bits.proofs.Visit.{within_start, collected_small, collected_below, collected_next, collected_end}
use Rattle.sets.specs.Words.{capacity}
use Rattle.environment_table.proofs.Outward.{lost_at_lem, lost_all}
use Rattle.environment_rows.proofs.lost.Goals as goal

pub loop-j-init : goal.loop-j-init
loop-j-init c =
    let all = c.into_iter-j-iterator.ensures.into_iter_gives in
    let p = c.requires in
    rw (all, c.empty-y.ensures.1) (within_start capacity _ _ _ p.0 p.3)

pub won-requires : goal.won-requires
won-requires c =
    let w = c.in-Some.ensures.steps in
    let below : c.in-Some.j < c.args.n = collected_below capacity _ _ _ _ _ c.loop-j.invariant w.some _ w.lowest in
    let p = c.requires in
    (p.0, below, p.1, p.2)

pub insert_if-y-requires : goal.insert_if-y-requires
insert_if-y-requires c =
    let w = c.in-Some.ensures.steps in
    collected_small capacity _ _ _ _ _ c.loop-j.invariant w.some _ w.lowest

pub loop-j-preserved : goal.loop-j-preserved
loop-j-preserved c =
    let w = c.in-Some.ensures.steps in
    collected_next capacity _ _ _ _ _ c.loop-j.invariant w.some _ w.lowest _ w.others
    (lost_at_lem _ _ _ _ _ c.won.ensures) c.insert_if-y.ensures

pub returns : goal.returns
returns c =
    let all = c.into_iter-j-iterator.ensures.into_iter_gives in
    lost_all _ _ _ _ _ (collected_end capacity _ _ _ _ _ (rw all at c.loop-j.invariant) c.in-None.ensures.steps.0)
