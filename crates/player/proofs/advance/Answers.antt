-- `advance` goes by the answer of `step`.
use mathlib.Core.Path.{refl, sym, ◌∙◌}
use Rattle.std.proofs.lemmas.Result.{err_from_is_err_and}
use Rattle.player.specs.Player.{moved_of, refusal_of, Advanced}
use Rattle.player.proofs.advance.Goals as goal

pub returns-in_err-at : goal.returns-in_err-at
unfolding moved_of refusal_of
returns-in_err-at c =
    let p = err_from_is_err_and c.from_residual.result c.from_residual.ensures.1 in
    let stopped = sym c.step.ensures.answer ∙ c.in_err-at.was in
    rw (p.1, p.2, stopped) (record { position = refl; refusal = refl })

pub returns : goal.returns
unfolding moved_of refusal_of
returns c =
    let moved = sym c.step.ensures.answer ∙ c.in_ok-at.was in
    rw moved (record { position = refl; refusal = refl })
