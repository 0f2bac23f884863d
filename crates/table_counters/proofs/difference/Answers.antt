-- `difference` meets its contract.
use Rattle.table_counters.proofs.difference.Goals as goal

pub returns : goal.returns
returns c = c.difference.ensures
