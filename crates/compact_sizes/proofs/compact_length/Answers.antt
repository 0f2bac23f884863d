-- `compact_length` by the table's dimensions, none of whose products wraps.
use native.Mathlib.Omega.{arith}
use Rattle.table_sizes.proofs.Lengths.{inputs_most, controller_rows}
use Rattle.compact_sizes.proofs.Lengths.{length_is, rows_most}
use Rattle.compact_sizes.proofs.compact_length.Goals as goal

pub overflow_mul-result : goal.overflow_mul-result
overflow_mul-result c =
    omega (arith, controller_rows _ c.requires.0 c.controller_counters.result c.controller_counters.ensures)

pub overflow_mul-result-2 : goal.overflow_mul-result-2
overflow_mul-result-2 c =
    let p = c.requires in
    omega (arith, rows_most _ c.controller_counters.result _ c.controller_counters.ensures p.1 p.0)

pub overflow_add-result : goal.overflow_add-result
overflow_add-result c =
    let p = c.requires in
    omega (arith, inputs_most _ p.0, rows_most _ c.controller_counters.result _ c.controller_counters.ensures p.1 p.0)

pub overflow_add-result-2 : goal.overflow_add-result-2
overflow_add-result-2 c =
    let p = c.requires in
    omega (arith, inputs_most _ p.0, rows_most _ c.controller_counters.result _ c.controller_counters.ensures p.1 p.0)

pub returns : goal.returns
returns c =
    length_is _ c.controller_counters.result _ c.controller_counters.ensures c.requires.1
