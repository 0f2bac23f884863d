-- `staying`: a state, or none.
use Rattle.controller_rows.proofs.Writes.{stays_state, stays_none}
use Rattle.controller_rows.proofs.rows.staying.Goals as goal

pub returns-then-p-lt-CAPACITY : goal.returns-then-p-lt-CAPACITY
returns-then-p-lt-CAPACITY c = stays_state _ _ c.if-p-lt-CAPACITY.true c.pack.ensures

pub returns : goal.returns
returns c = stays_none _ c.if-p-lt-CAPACITY.false
