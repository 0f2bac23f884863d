-- `starts` copies one start after the other.
use mathlib.Core.Path.{refl}
use native.Mathlib.Omega.{arith}
use Rattle.compact_rows.proofs.Copying.{started_none, started_next, started_end}
use Rattle.compact_rows.proofs.starts.Goals as goal

pub loop-i-init : goal.loop-i-init
loop-i-init c = (omega arith, started_none _ _ _)

pub bounds-room-i : goal.bounds-room-i
bounds-room-i c = omega (arith, c.loop-i.invariant.1.long)

pub loop-i-preserved : goal.loop-i-preserved
loop-i-preserved c =
    (omega arith, started_next _ _ c.loop-i.i c.loop-i-test.true (omega (arith, c.loop-i.invariant.1.long)) refl c.loop-i.invariant.1)

pub shape_of-room : goal.shape_of-room
shape_of-room c = c.loop-i.invariant.1.long

pub returns : goal.returns
returns c = started_end _ _ _ c.loop-i.invariant.0 c.loop-i-test.false c.loop-i.invariant.1
