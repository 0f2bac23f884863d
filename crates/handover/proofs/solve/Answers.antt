-- `solve`.
use Rattle.handover.proofs.Handing.{names, system_count, environment_count, hands_system, hands_environment, hands_nothing}
use Rattle.handover.proofs.solve.Goals as goal

pub slice_bounds-result-end : goal.slice_bounds-result-end
slice_bounds-result-end c =
    system_count _ _ _ _ _ _ _ c.solve_into-answer.ensures (names c.in-Ok-System.is (rw c.in-Ok-System.is at c.in-Ok-System.field-0-is))

pub slice_bounds-result-end-in-Ok-Environment : goal.slice_bounds-result-end-in-Ok-Environment
slice_bounds-result-end-in-Ok-Environment c =
    environment_count _ _ _ _ _ _ _ c.solve_into-answer.ensures (names c.in-Ok-Environment.is (rw c.in-Ok-Environment.is at c.in-Ok-Environment.field-0-is))

pub returns-in-Ok-System : goal.returns-in-Ok-System
returns-in-Ok-System c =
    hands_system _ _ _ _ _ _ _ _ _ _ c.solve_into-answer.ensures (names c.in-Ok-System.is (rw c.in-Ok-System.is at c.in-Ok-System.field-0-is))

pub returns-in-Ok-Environment : goal.returns-in-Ok-Environment
returns-in-Ok-Environment c =
    hands_environment _ _ _ _ _ _ _ _ _ _ c.solve_into-answer.ensures (names c.in-Ok-Environment.is (rw c.in-Ok-Environment.is at c.in-Ok-Environment.field-0-is))

pub returns-in-Err : goal.returns-in-Err
returns-in-Err c =
    hands_nothing _ _ _ _ _ _ _ _ _ _ c.solve_into-answer.ensures c.in-Err.is c.from.ensures
