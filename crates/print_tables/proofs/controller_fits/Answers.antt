-- `controller_fits` meets its contract: no product wraps.
use native.Mathlib.Omega.{arith}
use Rattle.finite.proofs.Loops.{failed, passed}
use Rattle.print_tables.proofs.Fits.{range_bounds, rows_most, entries_most, controller_unfit, controller_fit}
use Rattle.print_tables.proofs.controller_fits.Goals as goal

pub returns-then-not-in_range : goal.returns-then-not-in_range
returns-then-not-in_range c = controller_unfit _ _ _ _ (failed c.in_range.ensures c.if-not-in_range.true-raw)

pub overflow_mul-result : goal.overflow_mul-result
overflow_mul-result c =
    let b = range_bounds _ _ _ (passed c.in_range.ensures c.if-not-in_range.false-raw) in
    omega (arith, rows_most _ _ _ b.1 b.2 c.at_least_one.ensures)

pub overflow_mul-result-2 : goal.overflow_mul-result-2
overflow_mul-result-2 c =
    let b = range_bounds _ _ _ (passed c.in_range.ensures c.if-not-in_range.false-raw) in
    omega (arith, entries_most _ _ _ _ b.1 b.2 b.0 c.at_least_one.ensures)

pub overflow_add-result : goal.overflow_add-result
overflow_add-result c =
    let b = range_bounds _ _ _ (passed c.in_range.ensures c.if-not-in_range.false-raw) in
    omega (arith, b, entries_most _ _ _ _ b.1 b.2 b.0 c.at_least_one.ensures)

pub returns : goal.returns
returns c = controller_fit _ _ _ _ _ (passed c.in_range.ensures c.if-not-in_range.false-raw) c.at_least_one.ensures
