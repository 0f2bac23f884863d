-- `follow` plays step by step.
use mathlib.Core.Path.{◌≡◌, refl, sym, ◌∙◌}
use lib.ListN.{length}
use native.Mathlib.Omega.{arith}
use Rattle.recorder.proofs.Steps.{step_fault, step_ended, step_differs, step_same, at_end_lem}
use Rattle.recorder.proofs.follow.Goals as goal

pub loop-n-init : goal.loop-n-init
loop-n-init c = (omega arith, omega arith, refl)

pub answer_at-requires : goal.answer_at-requires
answer_at-requires c = c.requires

pub returns-in-Err : goal.returns-in-Err
returns-in-Err c =
    step_fault _ _ _ _ c.loop-n.n _ c.loop-n-test.true _ c.state_at.ensures _
    c.answer_at.ensures _ c.in-Err.is ∙ sym c.loop-n.invariant.2

pub returns-then-n-outputs : goal.returns-then-n-outputs
returns-then-n-outputs c =
    step_ended _ _ _ _ c.loop-n.n _ c.loop-n-test.true _ c.state_at.ensures _
    c.answer_at.ensures _ c.in-Ok.is c.if-n-outputs.true ∙ sym c.loop-n.invariant.2

pub returns-then-p-state_at : goal.returns-then-p-state_at
returns-then-p-state_at c =
    step_differs _ _ _ _ c.loop-n.n _ c.loop-n-test.true _ c.state_at.ensures _ c.answer_at.ensures _
    c.in-Ok.is c.if-n-outputs.false _ c.state_at-in-Ok.ensures c.if-p-state_at.true ∙ sym
    c.loop-n.invariant.2

pub loop-n-preserved : goal.loop-n-preserved
loop-n-preserved c = (
  omega arith,
  omega arith,
  c.loop-n.invariant.2 ∙ step_same _ _ _ _ c.loop-n.n _ c.loop-n-test.true _ c.state_at.ensures
      _ c.answer_at.ensures _ c.in-Ok.is c.if-n-outputs.false _
      c.state_at-in-Ok.ensures
      c.if-p-state_at.false,
)

pub returns : goal.returns
returns c =
    let whole : length c.args.inputs.now ≡ c.loop-n.n = omega arith in
    at_end_lem _ _ _ _ c.loop-n.n _ c.loop-n-test.false (rw whole at c.at_end.ensures) ∙ sym c.loop-n.invariant.2
