-- `without_lowest_low` meets its contract.
use native.Mathlib.Omega.{arith}
use Rattle.sets.specs.Words.{bits_of}
use Rattle.sets.proofs.Pair.{low_some, strip_low}
use Rattle.sets.proofs.without_lowest_low.Goals as goal

pub without_lowest-requires : goal.without_lowest-requires
unfolding bits_of
without_lowest-requires c = low_some _ _ (omega arith) c.requires

pub returns : goal.returns
unfolding bits_of
returns c = strip_low _ _ (omega arith) _ (omega arith) (low_some _ _ (omega arith) c.requires) c.without_lowest.ensures
