-- `nanpuwiq_barred_verdict` meets its contract.
use Rattle.nanpuwiq.proofs.Laws.{judge_called}
use Rattle.nanpuwiq.proofs.nanpuwiq_barred_verdict.Goals as goal

pub returns : goal.returns
returns c = judge_called c.barred_verdict.ensures c.judge_result.ensures
