-- `empty` meets its contract.
use mathlib.Core.Path.{refl}
use Rattle.sets.specs.Words.{bits_of}
use Rattle.sets.proofs.Pair.{pair_zero}
use Rattle.sets.proofs.empty.Goals as goal

pub returns : goal.returns
unfolding bits_of
returns c = (refl, pair_zero refl refl)
