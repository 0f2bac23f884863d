-- `modes_fit` looks at both counts.
use Rattle.finite.proofs.Loops.{failed, passed, and_stop, and_next}
use Rattle.kit_drives.specs.Acceptance.{modes_fit}
use Rattle.kit_checks.proofs.modes_fit.Goals as goal

pub returns-then-not-count_fits : goal.returns-then-not-count_fits
unfolding modes_fit
returns-then-not-count_fits c = and_stop _ (failed c.count_fits.ensures c.if-not-count_fits.true-raw)

pub returns : goal.returns
unfolding modes_fit
returns c = and_next (passed c.count_fits.ensures c.if-not-count_fits.false-raw) c.count_fits-2.ensures
