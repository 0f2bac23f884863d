-- `nanpuwiq_solve` meets its contract.
use Rattle.nanpuwiq.proofs.Laws.{solve_called}
use Rattle.nanpuwiq.proofs.nanpuwiq_solve.Goals as goal

pub returns : goal.returns
returns c =
    solve_called c.solve_into.ensures c.solve_result.ensures
