-- `nanpuwiq_check` meets its contract.
use Rattle.nanpuwiq.proofs.nanpuwiq_check.Goals as goal

pub returns : goal.returns
returns c =
    record { found = c.check.result; checks = c.check.ensures; answer = c.check_result.ensures }
