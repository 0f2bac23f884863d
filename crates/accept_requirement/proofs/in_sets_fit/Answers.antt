-- `in_sets_fit` looks at every place.
use mathlib.Core.Bool.{true}
use native.Mathlib.Omega.{arith}
use Rattle.finite.proofs.Loops.{all_start, all_turn, all_stop, all_end, failed, passed}
use Rattle.game.specs.Acceptance.{in_set_fits}
use Rattle.accept_requirement.proofs.in_sets_fit.Goals as goal

pub loop-j-init : goal.loop-j-init
loop-j-init c = (omega arith, all_start _)

pub returns-then-not-in_set_fits : goal.returns-then-not-in_set_fits
returns-then-not-in_set_fits c =
    all_stop _ _ _
    c.loop-j-test.true
    (failed c.in_set_fits.ensures c.if-not-in_set_fits.true-raw)

pub loop-j-preserved : goal.loop-j-preserved
loop-j-preserved c = (omega arith, all_turn _ _ c.loop-j.invariant.1 (passed c.in_set_fits.ensures c.if-not-in_set_fits.false-raw))

pub returns : goal.returns
returns c = all_end _ _ _ c.loop-j.invariant.0 c.loop-j-test.false c.loop-j.invariant.1
