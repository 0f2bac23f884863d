-- `answer_at` by the step's number.
use Rattle.recorder.proofs.Steps.{answer_start, answer_next, accepted_begins, accepted_steps}
use Rattle.recorder.proofs.answer_at.Goals as goal

pub begin_accepted-requires : goal.begin_accepted-requires
begin_accepted-requires c = c.requires.0

pub returns-then-n-eq0 : goal.returns-then-n-eq0
returns-then-n-eq0 c = answer_start _ _ _ _ _ c.if-n-eq0.true (accepted_begins _ _ _ c.requires.0 c.begin_accepted.ensures)

pub step_lent-requires : goal.step_lent-requires
step_lent-requires c = c.requires

pub returns : goal.returns
returns c = answer_next _ _ _ _ _ c.if-n-eq0.false (accepted_steps _ _ _ _ c.requires.0 c.step_lent.ensures)
