-- `insert_if` meets its contract.
use Rattle.table_counters.proofs.insert_if.Goals as goal

pub returns : goal.returns
returns c = c.insert_if.ensures
