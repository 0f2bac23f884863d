-- `pick_rows` goes down through the row numbers.
use Prim.Native.Nat.{◌-◌, ◌+◌}
use native.Mathlib.Omega.{arith}
use Rattle.compact_rows.proofs.Copying.{row_last, picked_rows_none, pick_fits, picked_rows_next, picked_rows_end}
use Rattle.compact_rows.proofs.pick_rows.Goals as goal

pub loop-x-init : goal.loop-x-init
loop-x-init c = (omega arith, picked_rows_none _ _ _ _ _)

pub overflow_sub-x : goal.overflow_sub-x
overflow_sub-x c = omega (arith, c.loop-x-test.true)

pub overflow_mul-x : goal.overflow_mul-x
overflow_mul-x c =
    let l = c.loop-x in
    omega (arith, row_last c.args.inputs (l.x - 1) c.args.inputs c.args.rows _ (omega (arith, c.loop-x-test.true, l.invariant.0)) c.requires.table)

pub overflow_add-inputs : goal.overflow_add-inputs
overflow_add-inputs c =
    let l = c.loop-x in
    omega (arith, row_last c.args.inputs (l.x - 1) c.args.inputs c.args.rows _ (omega (arith, c.loop-x-test.true, l.invariant.0)) c.requires.table)

pub overflow_add-inputs-in-loop-x : goal.overflow_add-inputs-in-loop-x
overflow_add-inputs-in-loop-x c = omega (arith, c.requires.room)

pub overflow_add-inputs-in-loop-x-2 : goal.overflow_add-inputs-in-loop-x-2
overflow_add-inputs-in-loop-x-2 c = omega (arith, c.requires.room)

pub overflow_mul-x-in-loop-x : goal.overflow_mul-x-in-loop-x
overflow_mul-x-in-loop-x c =
    let l = c.loop-x in
    let n = c.args.inputs in
    omega (arith, row_last (n + n) (l.x - 1) c.args.components c.args.rows _ (omega (arith, c.loop-x-test.true, l.invariant.0)) c.requires.room)

pub overflow_add-inputs-in-loop-x-3 : goal.overflow_add-inputs-in-loop-x-3
overflow_add-inputs-in-loop-x-3 c =
    let l = c.loop-x in
    let n = c.args.inputs in
    omega (arith, row_last (n + n) (l.x - 1) c.args.components c.args.rows _ (omega (arith, c.loop-x-test.true, l.invariant.0)) c.requires.room)

pub pick-requires : goal.pick-requires
pick-requires c =
    let l = c.loop-x in
    pick_fits _ _ _ _ l.x c.requires c.loop-x-test.true l.invariant.0 l.invariant.1

pub loop-x-smaller : goal.loop-x-smaller
loop-x-smaller c = omega (arith, c.loop-x-test.true)

pub loop-x-preserved : goal.loop-x-preserved
loop-x-preserved c =
    let l = c.loop-x in (
      omega (arith, l.invariant.0),
      picked_rows_next _ _ _ _ l.x c.requires c.loop-x-test.true l.invariant.0 l.invariant.1 c.pick.ensures,
    )

pub shape_of-room : goal.shape_of-room
shape_of-room c = c.loop-x.invariant.1.long

pub returns : goal.returns
returns c = picked_rows_end _ _ _ _ _ (omega (arith, c.loop-x-test.false)) c.loop-x.invariant.1
