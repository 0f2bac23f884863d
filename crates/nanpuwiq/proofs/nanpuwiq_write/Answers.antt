-- `nanpuwiq_write` meets its contract.
use Rattle.nanpuwiq.proofs.Laws.{write_called}
use Rattle.nanpuwiq.proofs.nanpuwiq_write.Goals as goal

pub returns : goal.returns
returns c = write_called c.write.ensures c.write_result.ensures
