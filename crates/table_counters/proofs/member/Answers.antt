-- `member` meets its contract.
use Rattle.table_counters.proofs.member.Goals as goal

pub returns : goal.returns
returns c = c.member.ensures
