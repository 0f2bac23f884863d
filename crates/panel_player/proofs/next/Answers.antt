-- `next` asks for acceptance first.
use mathlib.Core.Path.{sym, ◌∙◌}
use Rattle.std.proofs.lemmas.Result.{err_from_is_err_and}
use Rattle.panel_player.specs.Panel.{panel_next}
use Rattle.panel_player.proofs.Answers.{pick_refused, pick_accepted, picks_next}
use Rattle.panel_player.proofs.next.Goals as goal

pub next_accepted-requires : goal.next_accepted-requires
next_accepted-requires c = sym c.accept.ensures.answer ∙ c.in_ok-accept.was

pub returns-in_err-accept : goal.returns-in_err-accept
unfolding panel_next
returns-in_err-accept c =
    let p = err_from_is_err_and c.from_residual.result c.from_residual.ensures.1 in
    rw (p.1, p.2) (picks_next _ _ _ (pick_refused _ _ (sym c.accept.ensures.answer ∙ c.in_err-accept.was)))

pub returns : goal.returns
unfolding panel_next
returns c =
    picks_next _ _ _ (c.next_accepted.ensures ∙ pick_accepted _ (sym c.accept.ensures.answer ∙ c.in_ok-accept.was))
