-- `put_system` meets its contract.
use native.Mathlib.Omega.{arith}
use Rattle.solve.proofs.Printed.{makes_controller}
use Rattle.solve.proofs.put_system.Goals as goal

pub returns : goal.returns
returns c =
    makes_controller _ _ _ (λ j. omega (arith, c.type_inv.table j)) c.requires.1 c.guarantee_count-sets.ensures c.put_controller.ensures
