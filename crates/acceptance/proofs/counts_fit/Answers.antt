-- `counts_fit` looks at both counts.
use Rattle.finite.proofs.Loops.{failed, passed}
use Rattle.game.proofs.Steps.{counts_stop, counts_next}
use Rattle.acceptance.proofs.counts_fit.Goals as goal

pub returns-then-not-count_fits : goal.returns-then-not-count_fits
returns-then-not-count_fits c = counts_stop _ (failed c.count_fits.ensures c.if-not-count_fits.true-raw)

pub returns : goal.returns
returns c =
    counts_next _ _
    (passed c.count_fits.ensures c.if-not-count_fits.false-raw)
    c.count_fits-2.ensures
