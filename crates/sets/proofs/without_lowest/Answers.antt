-- `without_lowest` meets its contract.
use native.Mathlib.Omega.{arith}
use Rattle.sets.specs.Words.{bits_of}
use Rattle.sets.proofs.Pair.{strip_low, strip_high, pair_zero}
use Rattle.sets.proofs.without_lowest.Goals as goal

pub returns-then-x-ne0 : goal.returns-then-x-ne0
unfolding bits_of
returns-then-x-ne0 c = strip_low _ _ (omega arith) _ (omega arith) c.if-x-ne0.true c.without_lowest.ensures

pub without_lowest-requires-2 : goal.without_lowest-requires-2
unfolding bits_of
without_lowest-requires-2 c = λ z. c.requires (pair_zero c.if-x-ne0.false z)

pub returns : goal.returns
unfolding bits_of
returns c = strip_high _ _ (omega arith) _ c.if-x-ne0.false c.without_lowest-2.ensures
