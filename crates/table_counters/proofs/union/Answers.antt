-- `union` meets its contract.
use Rattle.table_counters.proofs.union.Goals as goal

pub returns : goal.returns
returns c = c.union.ensures
