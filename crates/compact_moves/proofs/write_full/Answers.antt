-- `write_full`.
use Prim.Native.Nat.{◌*◌}
use mathlib.Core.Path.{ap}
use native.Mathlib.Omega.{arith}
use Rattle.table_sizes.proofs.Lengths.{controller_rows}
use Rattle.compact_moves.proofs.Written.{full_fits_lem, full_written}
use Rattle.compact_moves.proofs.write_full.Goals as goal

pub overflow_mul-rows : goal.overflow_mul-rows
overflow_mul-rows c =
    omega (arith, controller_rows _ c.requires.0 _ c.controller_counters.ensures)

pub fill_full-requires : goal.fill_full-requires
fill_full-requires c =
    full_fits_lem _ _ c.requires.1 (ap (◌*◌ _) c.controller_counters.ensures) c.requires.3 c.requires.2 _ c.requires.4

pub returns : goal.returns
returns c =
    full_written _ _ c.requires.1 (ap (◌*◌ _) c.controller_counters.ensures) c.requires.3 c.requires.2 c.fill_full.ensures
