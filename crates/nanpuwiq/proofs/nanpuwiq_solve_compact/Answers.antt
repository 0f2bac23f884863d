-- `nanpuwiq_solve_compact` meets its contract.
use Rattle.nanpuwiq.proofs.Laws.{compact_called}
use Rattle.nanpuwiq.proofs.nanpuwiq_solve_compact.Goals as goal

pub returns : goal.returns
returns c =
    compact_called c.solve_compact_into.ensures c.solve_result.ensures
