-- `add_refusal` meets its contract.
use native.Mathlib.Omega.{arith}
use mathlib.Core.Path.{refl}
use Rattle.catalogue_tally.specs.Figures.{added}
use Rattle.catalogue_tally.proofs.add_refusal.Goals as goal

pub overflow_add-numbers : goal.overflow_add-numbers
overflow_add-numbers c = omega (arith, c.requires.numbers c.from-i.result c.from-i.type_inv)

pub returns : goal.returns
unfolding added
returns c = rw c.from-i.ensures refl
