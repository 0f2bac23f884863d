-- `nanpuwiq_solve_kit` meets its contract.
use Rattle.nanpuwiq.proofs.Laws.{kit_called}
use Rattle.nanpuwiq.proofs.nanpuwiq_solve_kit.Goals as goal

pub returns : goal.returns
returns c =
    kit_called c.solve_kit.ensures c.solve_result.ensures
