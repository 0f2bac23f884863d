-- `put_controller` meets its contract.
use native.Mathlib.Omega.{arith}
use Rattle.finite.proofs.Loops.{failed, passed}
use Rattle.print_tables.proofs.Fits.{controller_entries_lem, controller_nothing, controller_whole}
use Rattle.print_tables.proofs.put_controller.Goals as goal

pub returns-then-not-controller_fits : goal.returns-then-not-controller_fits
returns-then-not-controller_fits c = controller_nothing _ _ _ _ (failed c.controller_fits.ensures c.if-not-controller_fits.true-raw)

pub put_starts-b-requires : goal.put_starts-b-requires
put_starts-b-requires c =
    omega (arith, controller_entries_lem _ _ _ _ (passed c.controller_fits.ensures c.if-not-controller_fits.false-raw))

pub put_steps-requires : goal.put_steps-requires
put_steps-requires c =
    omega (arith, controller_entries_lem _ _ _ _ (passed c.controller_fits.ensures c.if-not-controller_fits.false-raw))

pub returns : goal.returns
returns c =
    controller_whole _ _ _ _ (passed c.controller_fits.ensures c.if-not-controller_fits.false-raw) c.put_wins-a.ensures
    c.put_starts-b.ensures c.put_steps.ensures
