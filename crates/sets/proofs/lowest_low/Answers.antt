-- `lowest_low` meets its contract.
use mathlib.Core.Path.{◌∙◌}
use native.Mathlib.Omega.{arith}
use Rattle.sets.specs.Words.{bits_of}
use Rattle.sets.proofs.Pair.{low_some, pair_lowest_low}
use Rattle.sets.proofs.lowest_low.Goals as goal

pub returns : goal.returns
unfolding bits_of
returns c = c.lowest.ensures ∙ pair_lowest_low _ _ (omega arith) (low_some _ _ (omega arith) c.requires)
