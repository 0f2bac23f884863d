-- `table_length`: every product fits a word.
use native.Mathlib.Omega.{arith}
use Rattle.kit.proofs.Lengths.{both_small, outputs_few, rows_few, entries_few, table_length}
use Rattle.kit.proofs.table_length.Goals as goal

pub overflow_mul-result : goal.overflow_mul-result
overflow_mul-result c = let p = c.requires in omega (arith, outputs_few _ p.0 _ p.1)

pub overflow_mul-result-2 : goal.overflow_mul-result-2
overflow_mul-result-2 c = let p = c.requires in omega (arith, rows_few _ p.0 _ p.1)

pub overflow_mul-result-3 : goal.overflow_mul-result-3
overflow_mul-result-3 c = let p = c.requires in omega (arith, entries_few _ p.0 _ p.1)

pub overflow_add-result : goal.overflow_add-result
overflow_add-result c = let p = c.requires in omega (arith, entries_few _ p.0 _ p.1, (both_small _ p.0).0.modes)

pub returns : goal.returns
returns c = let p = c.requires in table_length _ p.0 _ p.1
