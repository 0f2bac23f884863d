-- `nanpuwiq_to_full` meets its contract.
use Rattle.nanpuwiq.proofs.Laws.{back_called}
use Rattle.nanpuwiq.proofs.nanpuwiq_to_full.Goals as goal

pub returns : goal.returns
returns c = back_called c.to_full.ensures c.move_result.ensures
