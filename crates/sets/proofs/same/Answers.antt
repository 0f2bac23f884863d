-- `same`: two words each.
use native.Mathlib.Omega.{arith}
use Rattle.sets.specs.Words.{bits_of}
use Rattle.sets.proofs.Pair.{same_high, same_low}
use Rattle.sets.proofs.same.Goals as goal

pub returns-then-x-y : goal.returns-then-x-y
unfolding bits_of
returns-then-x-y c = same_high _ _ _ _ (omega arith) (omega arith) c.if-x-y.true

pub returns : goal.returns
unfolding bits_of
returns c = same_low _ _ _ _ (omega arith) (omega arith) c.if-x-y.false
