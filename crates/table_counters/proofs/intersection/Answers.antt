-- `intersection` meets its contract.
use Rattle.table_counters.proofs.intersection.Goals as goal

pub returns : goal.returns
returns c = c.intersection.ensures
