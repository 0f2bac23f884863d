-- `sets_fit` looks at the sets of all eight places.
use mathlib.Core.Path.{◌∙◌}
use mathlib.Core.Bool.{true}
use native.Mathlib.Omega.{arith}
use Rattle.finite.proofs.Loops.{all_start, all_turn, failed, passed}
use Rattle.game.proofs.Steps.{sets_stop, sets_end, fits_at}
use Rattle.acceptance.proofs.sets_fit.Goals as goal

pub loop-r-init : goal.loop-r-init
loop-r-init c = (omega arith, all_start _)

pub returns-then-not-requirement_fits : goal.returns-then-not-requirement_fits
returns-then-not-requirement_fits c = sets_stop _ _ c.loop-r-test.true (failed (c.requirement_fits.ensures ∙ fits_at _ _) c.if-not-requirement_fits.true-raw)

pub loop-r-preserved : goal.loop-r-preserved
loop-r-preserved c =
    (omega arith, all_turn _ _ c.loop-r.invariant.1 (passed (c.requirement_fits.ensures ∙ fits_at _ _) c.if-not-requirement_fits.false-raw))

pub returns : goal.returns
returns c = sets_end _ _ c.loop-r.invariant.0 c.loop-r-test.false c.loop-r.invariant.1
