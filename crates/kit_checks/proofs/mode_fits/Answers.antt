-- `mode_fits` looks at every command's place.
use native.Mathlib.Omega.{arith}
use Rattle.finite.proofs.Loops.{all_start, all_turn, all_stop, all_end, failed, passed}
use Rattle.kit_checks.proofs.mode_fits.Goals as goal

pub loop-u-init : goal.loop-u-init
loop-u-init c = (omega arith, all_start _)

pub entry_fits-requires : goal.entry_fits-requires
entry_fits-requires c = (c.requires, c.loop-u-test.true)

pub returns-then-not-entry_fits : goal.returns-then-not-entry_fits
returns-then-not-entry_fits c = all_stop _ _ _ c.loop-u-test.true (failed c.entry_fits.ensures c.if-not-entry_fits.true-raw)

pub loop-u-preserved : goal.loop-u-preserved
loop-u-preserved c = (omega arith, all_turn _ _ c.loop-u.invariant.1 (passed c.entry_fits.ensures c.if-not-entry_fits.false-raw))

pub returns : goal.returns
returns c = all_end _ _ _ c.loop-u.invariant.0 c.loop-u-test.false c.loop-u.invariant.1
