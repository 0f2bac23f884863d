-- `row_of` meets its contract.
use mathlib.Core.Path.{refl}
use Rattle.sets.specs.Words.{bits_of}
use Rattle.sets.proofs.Rows.{rows_at}
use Rattle.sets.proofs.row_of.Goals as goal

pub returns : goal.returns
unfolding bits_of
returns c = (refl, rows_at _ _)
