-- `begins_low` meets its contract.
use native.Mathlib.Omega.{arith}
use Rattle.sets.specs.Words.{bits_of}
use Rattle.sets.proofs.Pair.{low_test}
use Rattle.sets.proofs.begins_low.Goals as goal

pub returns : goal.returns
unfolding bits_of
returns c = low_test c.args.x.low c.args.x.high (omega arith)
