-- `put_environment` meets its contract.
use native.Mathlib.Omega.{arith}
use Rattle.finite.proofs.Loops.{failed, passed}
use Rattle.print_tables.proofs.Fits.{environment_entries_lem, environment_nothing, environment_whole}
use Rattle.print_tables.proofs.put_environment.Goals as goal

pub returns-then-not-environment_fits : goal.returns-then-not-environment_fits
returns-then-not-environment_fits c = environment_nothing _ _ _ _ (failed c.environment_fits.ensures c.if-not-environment_fits.true-raw)

pub bounds-table-0 : goal.bounds-table-0
bounds-table-0 c =
    omega (arith, environment_entries_lem _ _ _ _ (passed c.environment_fits.ensures c.if-not-environment_fits.false-raw))

pub put_steps-requires : goal.put_steps-requires
put_steps-requires c =
    omega (arith, environment_entries_lem _ _ _ _ (passed c.environment_fits.ensures c.if-not-environment_fits.false-raw))

pub returns : goal.returns
returns c =
    environment_whole _ _ _ _ (passed c.environment_fits.ensures c.if-not-environment_fits.false-raw) c.put_wins-a.ensures
    c.put_environment_start-b.ensures c.put_steps.ensures
