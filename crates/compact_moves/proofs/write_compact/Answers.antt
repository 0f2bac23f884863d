-- `write_compact`: the ranks, then the starts and the rows.
use Prim.Native.Nat.{◌*◌}
use mathlib.Core.Path.{ap}
use native.Mathlib.Omega.{arith}
use Rattle.table_sizes.proofs.Lengths.{controller_rows}
use Rattle.compact_moves.proofs.Written.{compact_fits_lem, compact_written, ranks_in}
use Rattle.compact_moves.proofs.write_compact.Goals as goal

pub write_ranks-requires : goal.write_ranks-requires
write_ranks-requires c =
    (c.requires.0, ranks_in _ _ c.requires.4)

pub overflow_mul-rows : goal.overflow_mul-rows
overflow_mul-rows c =
    omega (arith, controller_rows _ c.requires.0 _ c.controller_counters.ensures)

pub fill_compact-requires : goal.fill_compact-requires
fill_compact-requires c =
    compact_fits_lem _ _ c.requires.1 (ap (◌*◌ _) c.controller_counters.ensures) c.requires.3 c.requires.2 c.write_ranks.ensures c.requires.0 c.requires.4

pub returns : goal.returns
returns c =
    compact_written _ _ c.requires.1 (ap (◌*◌ _) c.controller_counters.ensures) c.requires.3 c.requires.2 c.write_ranks.ensures
    c.fill_compact.ensures
