-- `add` meets its contract.
use native.Mathlib.Omega.{arith}
use mathlib.Core.Path.{◌∙◌, ap}
use Rattle.std.specs.declared.result.Result.TheVariants.{Ok}
use Rattle.catalogue_tally.specs.Figures.{added}
use Rattle.catalogue_tally.proofs.Counting.{modest_system, modest_environment, added_as}
use Rattle.catalogue_tally.proofs.add.Goals as goal

pub overflow_add-result-in-Ok-System : goal.overflow_add-result-in-Ok-System
overflow_add-result-in-Ok-System c =
    omega (arith, modest_system (c.in-Ok-System.is ∙ ap Ok (rw c.in-Ok-System.is at c.in-Ok-System.field-0-is)) c.requires.1)

pub overflow_add-result-in-Ok-System-2 : goal.overflow_add-result-in-Ok-System-2
overflow_add-result-in-Ok-System-2 c =
    omega (arith, modest_system (c.in-Ok-System.is ∙ ap Ok (rw c.in-Ok-System.is at c.in-Ok-System.field-0-is)) c.requires.1)

pub overflow_add-result-in-Ok-Environment-2 : goal.overflow_add-result-in-Ok-Environment-2
overflow_add-result-in-Ok-Environment-2 c =
    omega (arith, modest_environment (c.in-Ok-Environment.is ∙ ap Ok (rw c.in-Ok-Environment.is at c.in-Ok-Environment.field-0-is)) c.requires.1)

pub overflow_add-result-in-Ok-Environment-3 : goal.overflow_add-result-in-Ok-Environment-3
overflow_add-result-in-Ok-Environment-3 c =
    omega (arith, modest_environment (c.in-Ok-Environment.is ∙ ap Ok (rw c.in-Ok-Environment.is at c.in-Ok-Environment.field-0-is)) c.requires.1)

pub returns-in-Ok-System : goal.returns-in-Ok-System
unfolding added
returns-in-Ok-System c = added_as _ (c.in-Ok-System.is ∙ ap Ok (rw c.in-Ok-System.is at c.in-Ok-System.field-0-is))

pub returns-in-Ok-Environment : goal.returns-in-Ok-Environment
unfolding added
returns-in-Ok-Environment c = added_as _ (c.in-Ok-Environment.is ∙ ap Ok (rw c.in-Ok-Environment.is at c.in-Ok-Environment.field-0-is))

pub returns-in-Err : goal.returns-in-Err
returns-in-Err c = c.add_refusal.ensures ∙ added_as _ c.in-Err.is
