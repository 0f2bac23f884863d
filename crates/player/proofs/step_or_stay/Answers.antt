-- `step_or_stay` goes by the answer of `step`.
use mathlib.Core.Path.{sym, ap, ◌∙◌}
use Rattle.player.specs.Player.{moved_of}
use Rattle.player.proofs.step_or_stay.Goals as goal

pub returns-in-Ok : goal.returns-in-Ok
unfolding moved_of
returns-in-Ok c = ap (moved_of _) (sym c.in-Ok.is ∙ c.step.ensures.answer)

pub returns-in-Err : goal.returns-in-Err
unfolding moved_of
returns-in-Err c = rw c.from.ensures (ap (moved_of _) (sym c.in-Err.is ∙ c.step.ensures.answer))
