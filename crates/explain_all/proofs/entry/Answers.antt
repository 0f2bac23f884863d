-- `entry` meets its contract.
use native.Mathlib.Omega.{arith}
use Rattle.explain_all.proofs.Entries.{number_small}
use Rattle.explain_all.proofs.entry.Goals as goal

pub overflow_add-result : goal.overflow_add-result
overflow_add-result c = omega (arith, number_small c.args.x)

pub overflow_cast-result : goal.overflow_cast-result
overflow_cast-result c = omega (arith, number_small c.args.x)
