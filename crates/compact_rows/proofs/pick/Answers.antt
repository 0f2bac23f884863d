-- `pick` goes through the ranks.
use mathlib.Core.Path.{refl}
use native.Mathlib.Omega.{arith}
use Rattle.compact_rows.proofs.Copying.{picked_none, input_stays, picked_next, picked_end}
use Rattle.compact_rows.proofs.pick.Goals as goal

pub loop-c-init : goal.loop-c-init
loop-c-init c = (omega arith, picked_none _ _ _ _ _)

pub overflow_add-at : goal.overflow_add-at
overflow_add-at c = omega (arith, c.requires.inputs)

pub offset_bounds-room-at : goal.offset_bounds-room-at
offset_bounds-room-at c = omega (arith, c.requires.inputs)

pub bounds-room-at : goal.bounds-room-at
bounds-room-at c =
    omega (arith, c.requires.inputs, c.loop-c.invariant.1.long)

pub overflow_add-room : goal.overflow_add-room
overflow_add-room c =
    let i = c.loop-c in
    omega (arith, c.requires.table i.c c.loop-c-test.true, input_stays _ _ _ _ _ _ c.requires c.loop-c-test.true i.invariant.1, c.from-j.ensures)

pub offset_bounds-table-from : goal.offset_bounds-table-from
offset_bounds-table-from c =
    let i = c.loop-c in
    omega (arith, c.requires.table i.c c.loop-c-test.true, input_stays _ _ _ _ _ _ c.requires c.loop-c-test.true i.invariant.1, c.from-j.ensures)

pub bounds-table-from : goal.bounds-table-from
bounds-table-from c =
    let i = c.loop-c in
    omega (arith, c.requires.table i.c c.loop-c-test.true, input_stays _ _ _ _ _ _ c.requires c.loop-c-test.true i.invariant.1, c.from-j.ensures)

pub overflow_add-room-in-loop-c : goal.overflow_add-room-in-loop-c
overflow_add-room-in-loop-c c =
    omega (arith, c.requires.room)

pub offset_bounds-room-cells : goal.offset_bounds-room-cells
offset_bounds-room-cells c =
    omega (arith, c.requires.room)

pub bounds-room-cells : goal.bounds-room-cells
bounds-room-cells c =
    omega (arith, c.requires.room, c.loop-c.invariant.1.long, c.loop-c-test.true)

pub loop-c-smaller : goal.loop-c-smaller
loop-c-smaller c = omega (arith, c.loop-c-test.true)

pub loop-c-preserved : goal.loop-c-preserved
loop-c-preserved c = (
  omega (arith, c.loop-c-test.true),
  picked_next _ _ _ _ _ _ c.requires c.loop-c-test.true c.loop-c.invariant.1 c.from-j.ensures refl,
)

pub shape_of-room : goal.shape_of-room
shape_of-room c = c.loop-c.invariant.1.long

pub returns : goal.returns
returns c = picked_end _ _ _ _ _ _ c.loop-c.invariant.0 c.loop-c-test.false c.loop-c.invariant.1
