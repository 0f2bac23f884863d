-- `nanpuwiq_advance` meets its contract.
use Rattle.nanpuwiq.proofs.Laws.{advance_called}
use Rattle.nanpuwiq.proofs.nanpuwiq_advance.Goals as goal

pub returns : goal.returns
returns c = advance_called c.advance.ensures c.refusal_code.ensures
