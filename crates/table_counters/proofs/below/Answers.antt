-- `below` meets its contract.
use Rattle.table_counters.proofs.below.Goals as goal

pub returns : goal.returns
returns c = c.below.ensures
