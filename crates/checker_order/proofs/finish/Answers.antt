-- `finish` meets its contract.
use native.Mathlib.Omega.{arith}
use mathlib.Core.Path.{◌∙◌}
use Rattle.checker_order.proofs.finish.Goals as goal

pub shape_of-unseen-then-top-eq0 : goal.shape_of-unseen-then-top-eq0
shape_of-unseen-then-top-eq0 c =
    c.loop-step.invariant.2 ∙ c.push-top.auto.unseen

pub source-requires : goal.source-requires
source-requires c =
    (c.requires.0, c.requires.1, omega arith, omega (arith, c.loop-step.invariant.2, c.push-top.auto.unseen, c.requires.3))

pub push-top-requires-in-loop-step : goal.push-top-requires-in-loop-step
push-top-requires-in-loop-step c =
    (c.requires.0, c.requires.1, omega (arith, c.loop-step.invariant.2, c.push-top.auto.unseen, c.requires.3), omega arith)

pub loop-step-preserved : goal.loop-step-preserved
loop-step-preserved c =
    (c.push-top-in-loop-step.ensures, omega arith, c.push-top-in-loop-step.auto.unseen ∙ c.loop-step.invariant.2)

pub shape_of-unseen : goal.shape_of-unseen
shape_of-unseen c =
    c.loop-step.invariant.2 ∙ c.push-top.auto.unseen
