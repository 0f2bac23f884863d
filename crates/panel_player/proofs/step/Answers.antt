-- `step` asks for acceptance first.
use mathlib.Core.Path.{sym, ◌∙◌}
use Rattle.std.proofs.lemmas.Result.{err_from_is_err_and}
use Rattle.panel_player.specs.Panel.{panel_step}
use Rattle.panel_player.proofs.Answers.{play_refused, play_accepted, plays_step}
use Rattle.panel_player.proofs.step.Goals as goal

pub step_accepted-requires : goal.step_accepted-requires
step_accepted-requires c = sym c.accept.ensures.answer ∙ c.in_ok-accept.was

pub returns-in_err-accept : goal.returns-in_err-accept
unfolding panel_step
returns-in_err-accept c =
    let p = err_from_is_err_and c.from_residual.result c.from_residual.ensures.1 in
    rw (p.1, p.2) (plays_step _ _ _ _ (play_refused _ _ (sym c.accept.ensures.answer ∙ c.in_err-accept.was)))

pub returns : goal.returns
unfolding panel_step
returns c =
    plays_step _ _ _ _ (c.step_accepted.ensures ∙ play_accepted _ (sym c.accept.ensures.answer ∙ c.in_ok-accept.was))
