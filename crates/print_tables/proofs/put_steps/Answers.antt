-- `put_steps` meets its contract. The invariant: the rows so far are written.
use mathlib.Core.Path.{refl}
use native.Mathlib.Omega.{arith}
use Rattle.text_put.proofs.Buffer.{puts_length}
use Rattle.print_tables.proofs.Print.{steps_none, steps_on, steps_end}
use Rattle.print_tables.proofs.put_steps.Goals as goal

pub overflow_sub-n : goal.overflow_sub-n
overflow_sub-n c = c.requires

pub loop-k-init : goal.loop-k-init
loop-k-init c = (steps_none _ _ _ _ _ _, omega arith, refl, c.requires)

pub overflow_add-first : goal.overflow_add-first
overflow_add-first c = omega (arith, c.loop-k.invariant, c.loop-k-test.true)

pub offset_bounds-table-first : goal.offset_bounds-table-first
offset_bounds-table-first c = omega (arith, c.loop-k.invariant, c.loop-k-test.true)

pub bounds-table-first : goal.bounds-table-first
bounds-table-first c = omega (arith, c.loop-k.invariant, c.loop-k-test.true)

pub loop-k-preserved : goal.loop-k-preserved
loop-k-preserved c = (
  steps_on _ _ _ _ _ (omega arith) c.loop-k.invariant.0 c.put_step-to.ensures,
  omega arith,
  refl,
  c.loop-k.invariant.3,
)

pub shape_of-buffer : goal.shape_of-buffer
shape_of-buffer c = puts_length c.loop-k.invariant.0

pub returns : goal.returns
returns c = steps_end _ _ _ _ _ _ c.loop-k.invariant.0 c.loop-k.invariant.1 c.loop-k-test.false
