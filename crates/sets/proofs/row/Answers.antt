-- `row` meets its contract.
use native.Mathlib.Omega.{arith}
use Rattle.sets.specs.Words.{bits_of, set_count}
use Rattle.sets.proofs.Rows.{rows_at}
use Rattle.sets.proofs.row.Goals as goal

pub overflow_mul-result : goal.overflow_mul-result
unfolding set_count
overflow_mul-result c = omega arith

pub offset_bounds-l-s : goal.offset_bounds-l-s
unfolding set_count
offset_bounds-l-s c = omega arith

pub bounds-l-s : goal.bounds-l-s
unfolding set_count
bounds-l-s c = omega arith

pub overflow_mul-result-2 : goal.overflow_mul-result-2
unfolding set_count
overflow_mul-result-2 c = omega arith

pub overflow_add-result : goal.overflow_add-result
unfolding set_count
overflow_add-result c = omega arith

pub offset_bounds-l-s-2 : goal.offset_bounds-l-s-2
unfolding set_count
offset_bounds-l-s-2 c = omega arith

pub bounds-l-s-2 : goal.bounds-l-s-2
unfolding set_count
bounds-l-s-2 c = omega arith

pub returns : goal.returns
unfolding bits_of
returns c = rows_at _ _
