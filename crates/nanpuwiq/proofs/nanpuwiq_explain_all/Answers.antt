-- `nanpuwiq_explain_all` meets its contract.
use Rattle.nanpuwiq.proofs.Laws.{explain_all_called}
use Rattle.nanpuwiq.proofs.nanpuwiq_explain_all.Goals as goal

pub returns : goal.returns
returns c = explain_all_called c.explain_all.ensures c.refusal_code.ensures
