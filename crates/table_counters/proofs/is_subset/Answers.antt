-- `is_subset` meets its contract.
use Rattle.table_counters.proofs.is_subset.Goals as goal

pub returns : goal.returns
returns c = c.is_subset.ensures
