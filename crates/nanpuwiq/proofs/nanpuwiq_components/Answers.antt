-- `nanpuwiq_components` meets its contract.
use Rattle.nanpuwiq.proofs.Laws.{count_called}
use Rattle.nanpuwiq.proofs.nanpuwiq_components.Goals as goal

pub returns : goal.returns
returns c = count_called c.count_components.ensures c.count_result.ensures
