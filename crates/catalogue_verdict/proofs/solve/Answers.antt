-- `solve` meets its contract.
use native.Mathlib.Omega.{arith}
use mathlib.Core.Path.{refl, ◌∙◌, ap}
use native.Mathlib.Nat.{mul-le-mul}
use Rattle.std.specs.declared.result.Result.TheVariants.{Ok}
use Rattle.std.proofs.lemmas.Result.{err_from_is_err_and}
use Rattle.table_sizes.proofs.Lengths.{inputs_most, outputs_most}
use Rattle.catalogue_verdict.proofs.Counting.{comes_refused, comes_system, comes_environment}
use Rattle.catalogue_verdict.proofs.solve.Goals as goal

pub overflow_mul-positions : goal.overflow_mul-positions
overflow_mul-positions c =
    let a = c.requires in
    omega (arith, mul-le-mul (inputs_most _ a) (outputs_most _ a))

pub returns-in_err-winner : goal.returns-in_err-winner
returns-in_err-winner c =
    let p = err_from_is_err_and c.from_residual.result c.from_residual.ensures.1 in
    rw (p.1, p.2)
    (comes_refused c.requires c.solve_into.ensures refl (omega (arith, c.fits-controller)) (omega (arith, c.fits-panel)) c.in_err-winner.was)

pub returns-in-System : goal.returns-in-System
returns-in-System c =
    comes_system c.requires c.solve_into.ensures refl (omega (arith, c.fits-controller)) (omega (arith, c.fits-panel))
    c.won_count-won.ensures.0 c.won_count-won.ensures.1 (c.in_ok-winner.was ∙ ap Ok c.in-System.is)

pub returns-in-Environment : goal.returns-in-Environment
returns-in-Environment c =
    comes_environment c.requires c.solve_into.ensures refl (omega (arith, c.fits-controller)) (omega (arith, c.fits-panel))
    c.won_count-won.ensures.0 c.won_count-won.ensures.1 (c.in_ok-winner.was ∙ ap Ok c.in-Environment.is)
