-- `layout_of`: field by field.
use mathlib.Core.Path.{refl}
use Rattle.controller_rows.specs.Writes.{layout_of}
use Rattle.controller_rows.proofs.rows.layout_of.Goals as goal

pub returns : goal.returns
unfolding layout_of
returns c = refl
