-- `environment_length` by the table's dimensions, none of whose products wraps.
use native.Mathlib.Omega.{arith}
use Rattle.table_sizes.proofs.Lengths.{inputs_most, environment_length_lem, environment_rows, environment_entries_lem}
use Rattle.table_sizes.proofs.environment_length.Goals as goal

pub overflow_mul-result : goal.overflow_mul-result
overflow_mul-result c = omega (arith, environment_rows _ c.requires c.environment_counters.result c.environment_counters.ensures)

pub overflow_mul-result-2 : goal.overflow_mul-result-2
overflow_mul-result-2 c =
    omega (arith, environment_entries_lem _ c.requires c.environment_counters.result c.environment_counters.ensures)

pub overflow_add-result : goal.overflow_add-result
overflow_add-result c =
    omega (
      arith,
      inputs_most _ c.requires,
      environment_entries_lem _ c.requires c.environment_counters.result
          c.environment_counters.ensures,
    )

pub returns : goal.returns
returns c = environment_length_lem _ c.environment_counters.result c.environment_counters.ensures
