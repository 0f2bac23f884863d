-- `is_empty` meets its contract.
use native.Mathlib.Omega.{arith}
use Rattle.sets.specs.Words.{bits_of}
use Rattle.sets.proofs.Pair.{pair_empty}
use Rattle.sets.proofs.is_empty.Goals as goal

pub returns : goal.returns
unfolding bits_of
returns c = pair_empty c.args.x.low c.args.x.high (omega arith)
