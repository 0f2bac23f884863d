-- `lowest` meets its contract.
use Rattle.table_counters.proofs.lowest.Goals as goal

pub returns : goal.returns
returns c = c.lowest.ensures
