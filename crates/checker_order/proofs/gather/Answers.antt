-- `gather` meets its contract.
use mathlib.Core.Path.{◌∙◌}
use native.Mathlib.Omega.{arith}
use Rattle.checker_order.proofs.gather.Goals as goal

pub add-requires : goal.add-requires
add-requires c =
    (c.requires.0, c.requires.1, omega arith, omega (arith, c.loop-c.invariant.1, c.requires.3))

pub loop-c-preserved : goal.loop-c-preserved
loop-c-preserved c =
    (omega arith, c.add.auto.unseen ∙ c.loop-c.invariant.1)
