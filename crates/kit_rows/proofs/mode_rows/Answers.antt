-- `mode_rows` goes through the old commands.
use Prim.Native.Nat.{◌+◌, ◌<◌}
use native.Mathlib.Omega.{arith}
use lib.ListN.{length}
use Rattle.kit_rows.proofs.Blocks.{moded_none, moded_next, moded_end}
use Rattle.kit_rows.proofs.mode_rows.Goals as goal

pub loop-u-init : goal.loop-u-init
loop-u-init c = (omega arith, moded_none _ _ _ _ _ _)

pub row-requires : goal.row-requires
row-requires c =
    let p = c.requires in
    (p.mode, omega (arith, p.few), p.reads c.loop-u.u c.loop-u-test.true)

pub overflow_add-room : goal.overflow_add-room
overflow_add-room c =
    let place : c.args.at + c.loop-u.u < length c.loop-u.room = omega (arith, c.requires.room, c.loop-u.invariant.1.long) in
    omega (arith, place)

pub offset_bounds-room-at : goal.offset_bounds-room-at
offset_bounds-room-at c =
    let place : c.args.at + c.loop-u.u < length c.loop-u.room = omega (arith, c.requires.room, c.loop-u.invariant.1.long) in
    omega (arith, place)

pub bounds-room-at : goal.bounds-room-at
bounds-room-at c =
    let place : c.args.at + c.loop-u.u < length c.loop-u.room = omega (arith, c.requires.room, c.loop-u.invariant.1.long) in
    place

pub loop-u-preserved : goal.loop-u-preserved
loop-u-preserved c =
    let place : c.args.at + c.loop-u.u < length c.loop-u.room = omega (arith, c.requires.room, c.loop-u.invariant.1.long) in
    (omega arith, moded_next _ _ _ _ _ c.loop-u.u c.loop-u-test.true (place) c.row.ensures c.loop-u.invariant.1)

pub shape_of-room : goal.shape_of-room
shape_of-room c = c.loop-u.invariant.1.long

pub returns : goal.returns
returns c = moded_end _ _ _ _ _ _ c.loop-u.invariant.0 c.loop-u-test.false c.loop-u.invariant.1
