-- `in_range` meets its contract.
use Rattle.print_tables.proofs.Fits.{range_inputs, range_outputs, range_sets}
use Rattle.print_tables.proofs.in_range.Goals as goal

pub returns-then-inputs-gt128 : goal.returns-then-inputs-gt128
returns-then-inputs-gt128 c = range_inputs _ _ _ c.if-inputs-gt128.true

pub returns-then-outputs-gt128 : goal.returns-then-outputs-gt128
returns-then-outputs-gt128 c = range_outputs _ _ _ c.if-inputs-gt128.false c.if-outputs-gt128.true

pub returns : goal.returns
returns c = range_sets _ _ _ c.if-inputs-gt128.false c.if-outputs-gt128.false
