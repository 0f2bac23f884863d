-- `fill_full`: the starts, then the rows.
use mathlib.Core.Path.{refl}
use Rattle.compact_rows.proofs.Copying.{full_filled}
use Rattle.compact_rows.proofs.fill_full.Goals as goal

pub returns : goal.returns
returns c =
    full_filled c.requires refl c.starts.ensures c.gather_rows.ensures
