-- `without_lowest` meets its contract.
use Rattle.table_counters.proofs.without_lowest.Goals as goal

pub without_lowest-requires : goal.without_lowest-requires
without_lowest-requires c = c.requires

pub returns : goal.returns
returns c = c.without_lowest.ensures
