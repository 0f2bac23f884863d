-- `name` meets its contract: the sum fits, as it is what the ground names.
use mathlib.Core.Path.{sym, ap}
use native.Mathlib.Omega.{arith}
use Rattle.explain_all.specs.Entry.{told_name}
use Rattle.explain_all.proofs.name.Goals as goal

pub overflow_mul-result : goal.overflow_mul-result
overflow_mul-result c = omega (arith, ap told_name c.in-Unserved.is)

pub overflow_add-result : goal.overflow_add-result
overflow_add-result c = omega (arith, ap told_name c.in-Unserved.is)

pub returns-in-Unserved : goal.returns-in-Unserved
returns-in-Unserved c = ap told_name (sym c.in-Unserved.is)
