-- `gather_rows` goes through the row numbers.
use Prim.Native.Nat.{◌+◌}
use native.Mathlib.Omega.{arith}
use Rattle.compact_rows.proofs.Copying.{row_last, gather_fits, gathered_rows_none, gathered_rows_next, gathered_rows_end}
use Rattle.compact_rows.proofs.gather_rows.Goals as goal

pub loop-x-init : goal.loop-x-init
loop-x-init c = (omega arith, gathered_rows_none _ _ _ _ _)

pub overflow_add-inputs : goal.overflow_add-inputs
overflow_add-inputs c = omega (arith, c.requires.table)

pub overflow_mul-x : goal.overflow_mul-x
overflow_mul-x c =
    let n = c.args.inputs in
    omega (arith, row_last (n + n) c.loop-x.x c.args.components c.args.rows _ c.loop-x-test.true c.requires.table)

pub overflow_add-inputs-in-loop-x : goal.overflow_add-inputs-in-loop-x
overflow_add-inputs-in-loop-x c =
    let n = c.args.inputs in
    omega (arith, row_last (n + n) c.loop-x.x c.args.components c.args.rows _ c.loop-x-test.true c.requires.table)

pub overflow_mul-x-in-loop-x : goal.overflow_mul-x-in-loop-x
overflow_mul-x-in-loop-x c =
    omega (arith, row_last c.args.inputs c.loop-x.x c.args.inputs c.args.rows _ c.loop-x-test.true c.requires.room)

pub overflow_add-inputs-in-loop-x-2 : goal.overflow_add-inputs-in-loop-x-2
overflow_add-inputs-in-loop-x-2 c =
    omega (arith, row_last c.args.inputs c.loop-x.x c.args.inputs c.args.rows _ c.loop-x-test.true c.requires.room)

pub gather-requires : goal.gather-requires
gather-requires c =
    gather_fits _ _ _ _ _ _ _ c.requires c.loop-x-test.true c.loop-x.invariant.1.long

pub loop-x-smaller : goal.loop-x-smaller
loop-x-smaller c = omega (arith, c.loop-x-test.true)

pub loop-x-preserved : goal.loop-x-preserved
loop-x-preserved c = (
  omega (arith, c.loop-x-test.true),
  gathered_rows_next _ _ _ _ c.loop-x.x c.loop-x-test.true c.loop-x.invariant.1 c.gather.ensures,
)

pub shape_of-room : goal.shape_of-room
shape_of-room c = c.loop-x.invariant.1.long

pub returns : goal.returns
returns c = gathered_rows_end _ _ _ _ _ c.loop-x.invariant.0 c.loop-x-test.false c.loop-x.invariant.1
