-- `reached` joins what the outputs of the set reach, lowest first.
use native.Mathlib.Omega.{arith}
use Rattle.environment_table.proofs.Reading.{reaching_start, reaching_below, reaching_turn, reaching_end}
use Rattle.environment_plain.proofs.reached.Goals as goal

pub loop-p-init : goal.loop-p-init
loop-p-init c =
    let all = c.into_iter-p-iterator.ensures.into_iter_gives in
    let p = c.requires in
    rw all (reaching_start _ _ _ _ _ c.empty-x.ensures.1 p.0.outputs p.1)

pub out_reach-more-requires : goal.out_reach-more-requires
out_reach-more-requires c =
    let w = c.in-Some.ensures.steps in
    let p = c.requires in
    let below = reaching_below _ _ _ _ _ _ _ c.loop-p.invariant w.some w.lowest in
    (p.0.inputs, omega (arith, below, p.0.outputs), omega (arith, below, p.0.long))

pub loop-p-preserved : goal.loop-p-preserved
loop-p-preserved c =
    let w = c.in-Some.ensures.steps in
    reaching_turn _ _ _ _ _ _ _ c.loop-p.invariant w.some w.lowest _ w.others
    c.out_reach-more.ensures c.union-x.ensures

pub returns : goal.returns
returns c =
    let all = c.into_iter-p-iterator.ensures.into_iter_gives in
    reaching_end _ _ _ _ _ _ (rw all at c.loop-p.invariant) c.in-None.ensures.steps.0
