-- `nanpuwiq_explain` meets its contract.
use Rattle.nanpuwiq.proofs.Laws.{explain_called}
use Rattle.nanpuwiq.proofs.nanpuwiq_explain.Goals as goal

pub returns : goal.returns
returns c = explain_called c.explain.ensures c.explain_result.ensures
