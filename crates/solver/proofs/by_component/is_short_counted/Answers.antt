-- `is_short_counted` compares the lengths.
use mathlib.Core.Path.{ap}
use lib.Dec.{ltb}
use Rattle.solver.proofs.by_component.is_short_counted.Goals as goal

pub returns : goal.returns
returns c = ap (ltb _) c.compact_length.ensures
