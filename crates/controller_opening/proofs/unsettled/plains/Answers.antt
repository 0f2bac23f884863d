-- `plains` writes the rows of all outputs.
use mathlib.Core.Path.{refl}
use Rattle.controller_rows.specs.Each.{none}
use Rattle.controller_rows.proofs.Each.{each_hit, each_end}
use Rattle.controller_rows.proofs.Writes.{table_long, long_plains}
use native.Mathlib.Omega.{arith}
use Rattle.controller_opening.proofs.unsettled.plains.Goals as goal

pub loop-o-init : goal.loop-o-init
loop-o-init c = (omega arith, record { each = none })

pub plain-requires : goal.plain-requires
plain-requires c =
    (table_long c.requires.0 (long_plains c.loop-o.invariant.1), omega arith, omega arith, c.requires.2)

pub loop-o-preserved : goal.loop-o-preserved
loop-o-preserved c =
    let written = rw c.row_of.ensures.1 at c.plain.ensures in
    (omega arith, record { each = each_hit c.loop-o.invariant.1.each refl refl written })

pub shape_of-room : goal.shape_of-room
shape_of-room c = long_plains c.loop-o.invariant.1

pub returns : goal.returns
returns c = record { each = each_end (omega arith) (omega arith) c.loop-o.invariant.1.each }
