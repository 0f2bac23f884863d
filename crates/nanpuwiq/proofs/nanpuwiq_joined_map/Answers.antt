-- `nanpuwiq_joined_map` meets its contract.
use Rattle.nanpuwiq.proofs.Laws.{joined_called}
use Rattle.nanpuwiq.proofs.nanpuwiq_joined_map.Goals as goal

pub returns : goal.returns
returns c = joined_called c.joined_map.ensures c.refusal_code.ensures
