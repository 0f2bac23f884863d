-- `gather` goes through the inputs.
use mathlib.Core.Path.{refl}
use native.Mathlib.Omega.{arith}
use Rattle.compact_rows.proofs.Copying.{gathered_none, gathered_next, gathered_end}
use Rattle.compact_rows.proofs.gather.Goals as goal

pub loop-j-init : goal.loop-j-init
loop-j-init c = (omega arith, gathered_none _ _ _ _ _)

pub overflow_add-inputs : goal.overflow_add-inputs
overflow_add-inputs c = omega (arith, c.requires.ranks)

pub offset_bounds-table-inputs : goal.offset_bounds-table-inputs
offset_bounds-table-inputs c = omega (arith, c.requires.ranks)

pub bounds-table-inputs : goal.bounds-table-inputs
bounds-table-inputs c =
    omega (arith, c.requires.ranks)

pub overflow_add-room : goal.overflow_add-room
overflow_add-room c =
    omega (arith, c.from-c.ensures, c.requires.cells c.loop-j.j c.loop-j-test.true)

pub offset_bounds-table-from : goal.offset_bounds-table-from
offset_bounds-table-from c =
    omega (arith, c.from-c.ensures, c.requires.cells c.loop-j.j c.loop-j-test.true)

pub bounds-table-from : goal.bounds-table-from
bounds-table-from c =
    omega (arith, c.from-c.ensures, c.requires.cells c.loop-j.j c.loop-j-test.true)

pub overflow_add-room-in-loop-j : goal.overflow_add-room-in-loop-j
overflow_add-room-in-loop-j c =
    omega (arith, c.requires.room, c.loop-j.invariant.1.long)

pub offset_bounds-room-at : goal.offset_bounds-room-at
offset_bounds-room-at c =
    omega (arith, c.requires.room, c.loop-j.invariant.1.long)

pub bounds-room-at : goal.bounds-room-at
bounds-room-at c =
    omega (arith, c.requires.room, c.loop-j.invariant.1.long)

pub loop-j-smaller : goal.loop-j-smaller
loop-j-smaller c = omega (arith, c.loop-j-test.true)

pub loop-j-preserved : goal.loop-j-preserved
loop-j-preserved c = (
  omega (arith, c.loop-j-test.true),
  gathered_next _ _ _ _ c.loop-j.j c.loop-j-test.true (omega (arith, c.requires.room, c.loop-j.invariant.1.long))
      c.from-c.ensures refl c.loop-j.invariant.1,
)

pub shape_of-room : goal.shape_of-room
shape_of-room c = c.loop-j.invariant.1.long

pub returns : goal.returns
returns c = gathered_end _ _ _ _ _ c.loop-j.invariant.0 c.loop-j-test.false c.loop-j.invariant.1
