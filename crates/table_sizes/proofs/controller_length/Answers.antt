-- `controller_length` by the table's dimensions, none of whose products wraps.
use native.Mathlib.Omega.{arith}
use Rattle.table_sizes.proofs.Lengths.{inputs_most, controller_length_lem, controller_rows, controller_entries_lem}
use Rattle.table_sizes.proofs.controller_length.Goals as goal

pub overflow_mul-result : goal.overflow_mul-result
overflow_mul-result c = omega (arith, controller_rows _ c.requires c.controller_counters.result c.controller_counters.ensures)

pub overflow_mul-result-2 : goal.overflow_mul-result-2
overflow_mul-result-2 c = omega (arith, controller_entries_lem _ c.requires c.controller_counters.result c.controller_counters.ensures)

pub overflow_add-result : goal.overflow_add-result
overflow_add-result c =
    omega (
      arith,
      inputs_most _ c.requires,
      controller_entries_lem _ c.requires c.controller_counters.result
          c.controller_counters.ensures,
    )

pub returns : goal.returns
returns c = controller_length_lem _ c.controller_counters.result c.controller_counters.ensures
