-- `entries_fit` looks at both drives.
use Rattle.finite.proofs.Loops.{failed, passed, and_stop, and_next}
use Rattle.kit_checks.proofs.entries_fit.Goals as goal

pub returns-then-not-drive_fits : goal.returns-then-not-drive_fits
returns-then-not-drive_fits c = and_stop _ (failed c.drive_fits.ensures c.if-not-drive_fits.true-raw)

pub returns : goal.returns
returns c = and_next (passed c.drive_fits.ensures c.if-not-drive_fits.false-raw) c.drive_fits-2.ensures
