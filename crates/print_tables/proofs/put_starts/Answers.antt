-- `put_starts` meets its contract. The invariant: the starts so far are written.
use native.Mathlib.Omega.{arith}
use Rattle.text_put.proofs.Buffer.{puts_length}
use Rattle.print_tables.proofs.Print.{starts_none, starts_on, starts_end}
use Rattle.print_tables.proofs.put_starts.Goals as goal

pub loop-i-init : goal.loop-i-init
loop-i-init c = (starts_none _ _ _, omega arith, c.requires)

pub offset_bounds-table-i : goal.offset_bounds-table-i
offset_bounds-table-i c = omega (arith, c.loop-i.invariant, c.loop-i-test.true)

pub bounds-table-i : goal.bounds-table-i
bounds-table-i c = omega (arith, c.loop-i.invariant, c.loop-i-test.true)

pub loop-i-preserved : goal.loop-i-preserved
loop-i-preserved c = (
  starts_on _ _ (omega arith) c.loop-i.invariant.0 c.put_start-to.ensures,
  omega arith,
  c.loop-i.invariant.2,
)

pub shape_of-buffer : goal.shape_of-buffer
shape_of-buffer c = puts_length c.loop-i.invariant.0

pub returns : goal.returns
returns c = starts_end _ _ _ c.loop-i.invariant.0 c.loop-i.invariant.1 c.loop-i-test.false
