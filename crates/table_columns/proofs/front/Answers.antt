-- `front` writes the entries of the counters below h.
use Prim.Native.Nat.{◌+◌, ◌*◌, ◌<◌}
use native.Mathlib.Omega.{arith}
use lib.ListN.{length}
use Rattle.table_columns.proofs.Fronts.{front_start, front_next, front_end}
use Rattle.table_columns.proofs.front.Goals as goal

pub loop-h-init : goal.loop-h-init
loop-h-init c = (omega arith, front_start _ _ _ _ _ _)

pub overflow_cast-room : goal.overflow_cast-room
overflow_cast-room c = omega (arith, c.requires.few)

pub overflow_mul-room : goal.overflow_mul-room
overflow_mul-room c =
    let entry_small : c.args.first + c.args.more * c.loop-h.h < 65536 = c.requires.small c.loop-h.h c.loop-h-test.true in
    omega (arith, entry_small)

pub overflow_add-room : goal.overflow_add-room
overflow_add-room c =
    let entry_small : c.args.first + c.args.more * c.loop-h.h < 65536 = c.requires.small c.loop-h.h c.loop-h-test.true in
    omega (arith, entry_small)

pub overflow_mul-room-in-loop-h : goal.overflow_mul-room-in-loop-h
overflow_mul-room-in-loop-h c =
    let place_below : c.args.base + c.args.step * c.loop-h.h < length c.loop-h.room = omega (arith, c.requires.below c.loop-h.h c.loop-h-test.true, c.loop-h.invariant.1.long) in
    omega (arith, place_below)

pub overflow_add-room-in-loop-h : goal.overflow_add-room-in-loop-h
overflow_add-room-in-loop-h c =
    let place_below : c.args.base + c.args.step * c.loop-h.h < length c.loop-h.room = omega (arith, c.requires.below c.loop-h.h c.loop-h-test.true, c.loop-h.invariant.1.long) in
    omega (arith, place_below)

pub offset_bounds-room-base : goal.offset_bounds-room-base
offset_bounds-room-base c =
    let place_below : c.args.base + c.args.step * c.loop-h.h < length c.loop-h.room = omega (arith, c.requires.below c.loop-h.h c.loop-h-test.true, c.loop-h.invariant.1.long) in
    omega (arith, place_below)

pub bounds-room-base : goal.bounds-room-base
bounds-room-base c =
    let place_below : c.args.base + c.args.step * c.loop-h.h < length c.loop-h.room = omega (arith, c.requires.below c.loop-h.h c.loop-h-test.true, c.loop-h.invariant.1.long) in
    omega (arith, place_below)

pub loop-h-preserved : goal.loop-h-preserved
loop-h-preserved c =
    let place_below : c.args.base + c.args.step * c.loop-h.h < length c.loop-h.room = omega (arith, c.requires.below c.loop-h.h c.loop-h-test.true, c.loop-h.invariant.1.long) in
    (omega arith, front_next _ _ _ _ _ _ _ _ c.loop-h.invariant.1 c.loop-h-test.true (place_below))

pub shape_of-room : goal.shape_of-room
shape_of-room c = c.loop-h.invariant.1.long

pub returns : goal.returns
returns c = front_end _ _ _ _ _ _ _ _ c.loop-h.invariant.1 c.loop-h-test.false
