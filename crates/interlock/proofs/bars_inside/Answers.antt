-- `bars_inside`.
use mathlib.Core.Path.{◌∙◌, ap₂}
use native.Mathlib.Omega.{arith}
use Rattle.finite.proofs.Loops.{all_start, all_turn, all_stop, all_end, failed, passed}
use Rattle.bits.specs.Member.{within}
use Rattle.interlock.specs.Bars.{bars_inside}
use Rattle.interlock.proofs.bars_inside.Goals as goal

pub loop-i-init : goal.loop-i-init
loop-i-init c = (omega arith, all_start _)

pub part-requires : goal.part-requires
part-requires c =
    omega (arith, c.parts-n.ensures)

pub returns-then-not-within : goal.returns-then-not-within
unfolding bars_inside
returns-then-not-within c =
    let met = c.within.ensures ∙ ap₂ within c.part.ensures c.barrable.ensures in
    all_stop _ c.loop-i.i _ (omega (arith, c.parts-n.ensures)) (failed met c.if-not-within.true-raw)

pub loop-i-preserved : goal.loop-i-preserved
loop-i-preserved c =
    let met = c.within.ensures ∙ ap₂ within c.part.ensures c.barrable.ensures in
    (omega (arith, c.parts-n.ensures), all_turn c.loop-i.i _ c.loop-i.invariant.1 (passed met c.if-not-within.false-raw))

pub returns : goal.returns
unfolding bars_inside
returns c =
    all_end _ c.loop-i.i _ c.loop-i.invariant.0 (omega (arith, c.parts-n.ensures)) c.loop-i.invariant.1
