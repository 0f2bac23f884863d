-- `run` writes the places below x.
use native.Mathlib.Omega.{arith}
use Rattle.table_columns.proofs.Rows.{run_start, run_next, run_end}
use Rattle.table_columns.proofs.run.Goals as goal

pub loop-x-init : goal.loop-x-init
loop-x-init c = (omega arith, run_start _ _ _ _)

pub overflow_add-room : goal.overflow_add-room
overflow_add-room c = omega (arith, c.requires c.loop-x.x c.loop-x-test.true, c.loop-x.invariant.1.long)

pub offset_bounds-room-base : goal.offset_bounds-room-base
offset_bounds-room-base c = omega (arith, c.requires c.loop-x.x c.loop-x-test.true, c.loop-x.invariant.1.long)

pub bounds-room-base : goal.bounds-room-base
bounds-room-base c = omega (arith, c.requires c.loop-x.x c.loop-x-test.true, c.loop-x.invariant.1.long)

pub loop-x-preserved : goal.loop-x-preserved
loop-x-preserved c = (
  omega arith,
  run_next _ _ _ _ _ _ c.loop-x.invariant.1 c.loop-x-test.true
      (omega (arith, c.requires c.loop-x.x c.loop-x-test.true, c.loop-x.invariant.1.long)),
)

pub shape_of-room : goal.shape_of-room
shape_of-room c = c.loop-x.invariant.1.long

pub returns : goal.returns
returns c = run_end _ _ _ _ _ _ c.loop-x.invariant.1 c.loop-x-test.false
