-- `begin` asks for acceptance first.
use mathlib.Core.Path.{sym, ◌∙◌}
use Rattle.std.proofs.lemmas.Result.{err_from_is_err_and}
use Rattle.player.proofs.Answers.{beginning_refused, beginning_accepted, plays_begin}
use Rattle.player.proofs.begin.Goals as goal

pub begin_accepted-requires : goal.begin_accepted-requires
begin_accepted-requires c = sym c.accept.ensures.answer ∙ c.in_ok-accept.was

pub returns-in_err-accept : goal.returns-in_err-accept
returns-in_err-accept c =
    let p = err_from_is_err_and c.from_residual.result c.from_residual.ensures.1 in
    rw (p.1, p.2) (plays_begin _ _ _ (beginning_refused _ _ _ _ (sym c.accept.ensures.answer ∙ c.in_err-accept.was)))

pub returns : goal.returns
returns c =
    plays_begin _ _ _
    (beginning_accepted _ _ _ _ (sym c.accept.ensures.answer ∙ c.in_ok-accept.was) c.begin_accepted.ensures)
