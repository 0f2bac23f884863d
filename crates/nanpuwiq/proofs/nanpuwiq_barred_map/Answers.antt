-- `nanpuwiq_barred_map` meets its contract.
use Rattle.nanpuwiq.proofs.Laws.{barred_called}
use Rattle.nanpuwiq.proofs.nanpuwiq_barred_map.Goals as goal

pub returns : goal.returns
returns c = barred_called c.barred_map.ensures c.refusal_code.ensures
