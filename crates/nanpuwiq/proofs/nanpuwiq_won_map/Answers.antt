-- `nanpuwiq_won_map` meets its contract.
use Rattle.nanpuwiq.proofs.Laws.{map_called}
use Rattle.nanpuwiq.proofs.nanpuwiq_won_map.Goals as goal

pub returns : goal.returns
returns c = map_called c.won_map.ensures c.refusal_code.ensures
