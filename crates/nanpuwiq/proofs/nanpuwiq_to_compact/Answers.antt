-- `nanpuwiq_to_compact` meets its contract.
use Rattle.nanpuwiq.proofs.Laws.{over_called}
use Rattle.nanpuwiq.proofs.nanpuwiq_to_compact.Goals as goal

pub returns : goal.returns
returns c = over_called c.to_compact.ensures c.move_result.ensures
