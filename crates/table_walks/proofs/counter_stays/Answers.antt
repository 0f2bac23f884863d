-- `counter_stays`: the fields are what is asked.
use mathlib.Core.Path.{refl}
use native.Mathlib.Omega.{arith}
use Rattle.table_walks.proofs.counter_stays.Goals as goal

pub below-requires : goal.below-requires
below-requires c = omega (arith, c.requires)

pub returns : goal.returns
returns c = record { columns = refl; which = c.below.ensures; hit = refl; miss = refl; more = refl }
