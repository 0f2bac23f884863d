-- `put_panel` meets its contract.
use native.Mathlib.Omega.{arith}
use Rattle.solve.proofs.Printed.{makes_environment}
use Rattle.solve.proofs.put_panel.Goals as goal

pub returns : goal.returns
returns c =
    makes_environment _ _ _ (λ j. omega (arith, c.type_inv.table j)) c.requires.1 c.assumption_count-sets.ensures c.put_environment.ensures
