-- `starts` writes the start entries.
use mathlib.Core.Path.{refl}
use Rattle.controller_rows.specs.Each.{none}
use Rattle.controller_rows.proofs.Each.{each_hit, each_end}
use Rattle.controller_rows.proofs.Writes.{start_of_lem, long_starts}
use native.Mathlib.Omega.{arith}
use Rattle.controller_opening.proofs.starts.starts.Goals as goal

pub loop-i-init : goal.loop-i-init
loop-i-init c = (omega arith, record { each = none })

pub bounds-room-i : goal.bounds-room-i
bounds-room-i c = omega (arith, long_starts c.loop-i.invariant.1)

pub loop-i-preserved : goal.loop-i-preserved
loop-i-preserved c =
    (omega arith, record { each = each_hit c.loop-i.invariant.1.each refl refl (start_of_lem c.start.ensures) })

pub shape_of-room : goal.shape_of-room
shape_of-room c = long_starts c.loop-i.invariant.1

pub returns : goal.returns
returns c = record { each = each_end (omega arith) (omega arith) c.loop-i.invariant.1.each }
