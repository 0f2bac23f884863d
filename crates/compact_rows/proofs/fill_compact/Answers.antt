-- `fill_compact`: the starts, which leave the ranks, then an input for each rank, then the rows.
use native.Mathlib.Omega.{arith}
use Rattle.compact_rows.proofs.Copying.{represent_fits, pick_rows_fits, compact_filled}
use Rattle.compact_rows.proofs.fill_compact.Goals as goal

pub overflow_add-inputs : goal.overflow_add-inputs
overflow_add-inputs c =
    omega (arith, c.requires.room)

pub represent-requires : goal.represent-requires
represent-requires c =
    represent_fits c.requires c.starts.ensures

pub pick_rows-requires : goal.pick_rows-requires
pick_rows-requires c =
    pick_rows_fits c.requires c.starts.ensures c.represent.ensures

pub returns : goal.returns
returns c =
    compact_filled c.requires c.starts.ensures c.represent.ensures c.pick_rows.ensures
