-- `requirement_fits` by its three parts.
use Rattle.finite.proofs.Loops.{failed, passed}
use Rattle.game.proofs.Steps.{fits_unused, fits_in, fits_out}
use Rattle.accept_requirement.proofs.requirement_fits.Goals as goal

pub returns-then-not-in_use : goal.returns-then-not-in_use
returns-then-not-in_use c = fits_unused _ _ _ (failed c.in_use.ensures c.if-not-in_use.true-raw)

pub returns-then-not-in_sets_fit : goal.returns-then-not-in_sets_fit
returns-then-not-in_sets_fit c =
    fits_in _ _ _
    (passed c.in_use.ensures c.if-not-in_use.false-raw)
    (failed c.in_sets_fit.ensures c.if-not-in_sets_fit.true-raw)

pub returns : goal.returns
returns c =
    fits_out _ _ _ _
    (passed c.in_use.ensures c.if-not-in_use.false-raw)
    (passed c.in_sets_fit.ensures c.if-not-in_sets_fit.false-raw)
    c.out_sets_fit.ensures
