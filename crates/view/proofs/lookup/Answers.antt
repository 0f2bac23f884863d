-- `lookup` computes the row's place, which fits a word where the row is in range.
use native.Mathlib.Omega.{arith}
use Rattle.finite.proofs.Loops.{failed, passed}
use Rattle.view.proofs.Range.{range_bounds, row_none, row_read}
use Rattle.view.proofs.lookup.Goals as goal

pub returns-then-not-in_range : goal.returns-then-not-in_range
returns-then-not-in_range c = row_none _ _ _ _ _ _ (failed c.in_range.ensures c.if-not-in_range.true-raw)

pub overflow_mul-o : goal.overflow_mul-o
overflow_mul-o c = omega (arith, range_bounds _ _ _ _ _ (passed c.in_range.ensures c.if-not-in_range.false-raw))

pub overflow_add-o : goal.overflow_add-o
overflow_add-o c = omega (arith, range_bounds _ _ _ _ _ (passed c.in_range.ensures c.if-not-in_range.false-raw))

pub overflow_mul-o-2 : goal.overflow_mul-o-2
overflow_mul-o-2 c = omega (arith, range_bounds _ _ _ _ _ (passed c.in_range.ensures c.if-not-in_range.false-raw))

pub overflow_add-o-2 : goal.overflow_add-o-2
overflow_add-o-2 c = omega (arith, range_bounds _ _ _ _ _ (passed c.in_range.ensures c.if-not-in_range.false-raw))

pub overflow_add-inputs : goal.overflow_add-inputs
overflow_add-inputs c = omega (arith, range_bounds _ _ _ _ _ (passed c.in_range.ensures c.if-not-in_range.false-raw))

pub returns : goal.returns
returns c = row_read _ _ _ _ _ _ _ (passed c.in_range.ensures c.if-not-in_range.false-raw) c.entry.ensures
