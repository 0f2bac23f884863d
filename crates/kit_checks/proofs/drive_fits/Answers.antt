-- `drive_fits` looks at every mode.
use native.Mathlib.Omega.{arith}
use Rattle.finite.specs.Bounded.{all}
use Rattle.finite.proofs.Loops.{all_start, all_turn, all_stop, all_end, failed, passed}
use Rattle.sets.specs.Words.{capacity}
use Rattle.kit_drives.specs.Acceptance.{entry_fits, entries_fit}
use Rattle.kit_checks.proofs.drive_fits.Goals as goal

pub loop-m-init : goal.loop-m-init
loop-m-init c = (omega arith, all_start _)

pub mode_fits-requires : goal.mode_fits-requires
mode_fits-requires c = c.loop-m-test.true

pub returns-then-not-mode_fits : goal.returns-then-not-mode_fits
unfolding entries_fit
returns-then-not-mode_fits c =
    all_stop capacity _ (λ j. all 16 (entry_fits _ _ _ j)) c.loop-m-test.true
    (failed c.mode_fits.ensures c.if-not-mode_fits.true-raw)

pub loop-m-preserved : goal.loop-m-preserved
loop-m-preserved c = (omega arith, all_turn _ _ c.loop-m.invariant.1 (passed c.mode_fits.ensures c.if-not-mode_fits.false-raw))

pub returns : goal.returns
unfolding entries_fit
returns c = all_end _ _ _ c.loop-m.invariant.0 c.loop-m-test.false c.loop-m.invariant.1
