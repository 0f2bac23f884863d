-- `represent` goes through the inputs; the ranks, which it reads from the room, stay.
use mathlib.Core.Path.{refl}
use native.Mathlib.Omega.{arith}
use Rattle.compact_rows.proofs.Copying.{represented_none, rank_in, represented_next, represented_end}
use Rattle.compact_rows.proofs.represent.Goals as goal

pub loop-j-init : goal.loop-j-init
loop-j-init c = (omega arith, represented_none _ _ _ _)

pub overflow_add-inputs : goal.overflow_add-inputs
overflow_add-inputs c =
    omega (arith, c.requires.before, c.requires.room)

pub offset_bounds-room-inputs : goal.offset_bounds-room-inputs
offset_bounds-room-inputs c =
    omega (arith, c.requires.before, c.requires.room)

pub bounds-room-inputs : goal.bounds-room-inputs
bounds-room-inputs c =
    omega (arith, c.requires.before, c.requires.room, c.loop-j.invariant.1.long)

pub overflow_cast-room : goal.overflow_cast-room
overflow_cast-room c = omega (arith, c.requires.few)

pub overflow_add-room : goal.overflow_add-room
overflow_add-room c =
    omega (arith, rank_in _ _ _ _ c.requires c.loop-j-test.true c.loop-j.invariant.1 c.from-c.ensures)

pub offset_bounds-room-at : goal.offset_bounds-room-at
offset_bounds-room-at c =
    omega (arith, rank_in _ _ _ _ c.requires c.loop-j-test.true c.loop-j.invariant.1 c.from-c.ensures)

pub bounds-room-at : goal.bounds-room-at
bounds-room-at c =
    rank_in _ _ _ _ c.requires c.loop-j-test.true c.loop-j.invariant.1 c.from-c.ensures

pub loop-j-smaller : goal.loop-j-smaller
loop-j-smaller c = omega (arith, c.loop-j-test.true)

pub loop-j-preserved : goal.loop-j-preserved
loop-j-preserved c = (
  omega (arith, c.loop-j-test.true),
  represented_next _ _ _ _ c.requires c.loop-j-test.true c.loop-j.invariant.1 c.from-c.ensures refl,
)

pub shape_of-room : goal.shape_of-room
shape_of-room c = c.loop-j.invariant.1.long

pub returns : goal.returns
returns c = represented_end _ _ _ _ c.loop-j.invariant.0 c.loop-j-test.false c.loop-j.invariant.1
