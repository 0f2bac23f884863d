-- `begun` collects the inputs at which a run begins.
use Prim.Native.Nat.{◌<◌}
use Rattle.bits.proofs.Visit.{collected_below, collected_next, cut_start, cut_end}
use Rattle.sets.specs.Words.{capacity}
use Rattle.region_runs.proofs.Runs.{runs_of}
use native.Mathlib.Omega.{arith}
use Rattle.region_runs.proofs.begun.Goals as goal

pub loop-j-init : goal.loop-j-init
loop-j-init c =
    let all = c.into_iter-j-iterator.ensures.into_iter_gives in
    rw (all, c.empty-x.ensures.1) (cut_start capacity _ _ _ _ c.below.ensures c.intersection-j-items.ensures _ (omega arith))

pub begins-requires : goal.begins-requires
begins-requires c =
    let w = c.in-Some.ensures.steps in
    let below : c.in-Some.j < c.args.n = collected_below capacity _ _ _ _ _ c.loop-j.invariant w.some _ w.lowest in
    (c.requires.0, below, c.requires.1)

pub insert_if-x-requires : goal.insert_if-x-requires
insert_if-x-requires c =
    let w = c.in-Some.ensures.steps in
    omega (arith, c.requires.0, collected_below capacity _ _ _ _ _ c.loop-j.invariant w.some _ w.lowest)

pub loop-j-preserved : goal.loop-j-preserved
loop-j-preserved c =
    let w = c.in-Some.ensures.steps in
    collected_next capacity _ _ _ _ _ c.loop-j.invariant w.some _ w.lowest _ w.others c.begins.ensures c.insert_if-x.ensures

pub returns : goal.returns
returns c =
    let all = c.into_iter-j-iterator.ensures.into_iter_gives in
    let left = c.in-None.ensures in
    runs_of _ _ _ _ (cut_end capacity _ _ _ _ c.below.ensures c.intersection-j-items.ensures _ _ _ (rw all at c.loop-j.invariant) left.steps.0)
