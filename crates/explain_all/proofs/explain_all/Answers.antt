-- `explain_all`: what it refuses; else what `explain_positions` leaves.
use mathlib.Core.Path.{sym, ◌∙◌}
use Rattle.std.proofs.lemmas.Result.{err_from_is_err_and}
use Rattle.finite.proofs.Truth.{not_true, not_false}
use Rattle.game.proofs.Laws.{accepted_fits}
use Rattle.explain_all.proofs.Made.{all_faulty, all_short, all_done, fits_scratch, fits_room}
use Rattle.explain_all.proofs.explain_all.Goals as goal

pub fits-requires : goal.fits-requires
fits-requires c = sym c.accept.ensures.answer ∙ c.in_ok-accept.was

pub returns-then-not-fits : goal.returns-then-not-fits
returns-then-not-fits c =
    all_short _ _ _ (sym c.accept.ensures.answer ∙ c.in_ok-accept.was) (sym c.fits.ensures ∙ not_true _ c.if-not-fits.true-raw)

pub explain_positions-requires : goal.explain_positions-requires
explain_positions-requires c =
    let fits = sym c.fits.ensures ∙ not_false _ c.if-not-fits.false-raw in (
      accepted_fits _ (sym c.accept.ensures.answer ∙ c.in_ok-accept.was),
      fits_scratch _ _ _ fits,
      fits_room _ _ _ fits,
    )

pub returns-in_err-accept : goal.returns-in_err-accept
returns-in_err-accept c =
    let p = err_from_is_err_and c.from_residual.result c.from_residual.ensures.1 in
    rw (p.1, p.2) (all_faulty _ _ _ _ (sym c.accept.ensures.answer ∙ c.in_err-accept.was))

pub returns : goal.returns
returns c =
    all_done _ _ _ (sym c.accept.ensures.answer ∙ c.in_ok-accept.was) (sym c.fits.ensures ∙ not_false _ c.if-not-fits.false-raw)
    c.explain_positions.ensures.0 c.explain_positions.ensures.1
