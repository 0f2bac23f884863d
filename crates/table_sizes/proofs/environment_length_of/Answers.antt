-- `environment_length_of` by the table's dimensions, none of whose products wraps.
use native.Mathlib.Omega.{arith}
use Rattle.table_sizes.proofs.Lengths.{inputs_most, environment_length_lem, environment_rows, environment_entries_lem}
use Rattle.table_sizes.proofs.environment_length_of.Goals as goal

pub overflow_mul-result : goal.overflow_mul-result
overflow_mul-result c = let p = c.requires in omega (arith, environment_rows _ p.0 _ p.1.environment)

pub overflow_mul-result-2 : goal.overflow_mul-result-2
overflow_mul-result-2 c = let p = c.requires in omega (arith, environment_entries_lem _ p.0 _ p.1.environment)

pub overflow_add-result : goal.overflow_add-result
overflow_add-result c = let p = c.requires in omega (arith, inputs_most _ p.0, environment_entries_lem _ p.0 _ p.1.environment)

pub returns : goal.returns
returns c = let p = c.requires in environment_length_lem _ _ p.1.environment
