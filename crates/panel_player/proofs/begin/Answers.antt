-- `begin` asks for acceptance first.
use mathlib.Core.Path.{sym, ◌∙◌}
use Rattle.std.proofs.lemmas.Result.{err_from_is_err_and}
use Rattle.panel_player.specs.Panel.{panel_begin}
use Rattle.panel_player.proofs.Answers.{play_refused, play_accepted, plays_begin}
use Rattle.panel_player.proofs.begin.Goals as goal

pub begin_accepted-requires : goal.begin_accepted-requires
begin_accepted-requires c = sym c.accept.ensures.answer ∙ c.in_ok-accept.was

pub returns-in_err-accept : goal.returns-in_err-accept
unfolding panel_begin
returns-in_err-accept c =
    let p = err_from_is_err_and c.from_residual.result c.from_residual.ensures.1 in
    rw (p.1, p.2) (plays_begin _ _ _ (play_refused _ _ (sym c.accept.ensures.answer ∙ c.in_err-accept.was)))

pub returns : goal.returns
unfolding panel_begin
returns c =
    plays_begin _ _ _ (c.begin_accepted.ensures ∙ play_accepted _ (sym c.accept.ensures.answer ∙ c.in_ok-accept.was))
