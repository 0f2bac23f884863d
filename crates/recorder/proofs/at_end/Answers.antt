-- `at_end` by whether outputs are left.
use Rattle.recorder.proofs.Steps.{ends_both, ends_one}
use Rattle.recorder.proofs.at_end.Goals as goal

pub returns-then-n-outputs : goal.returns-then-n-outputs
returns-then-n-outputs c = ends_one _ _ c.if-n-outputs.true

pub returns : goal.returns
returns c = ends_both _ _ c.if-n-outputs.false
