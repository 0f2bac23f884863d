-- `insert` meets its contract.
use native.Mathlib.Omega.{arith}
use Rattle.sets.specs.Words.{bits_of}
use Rattle.sets.proofs.Pair.{insert_low, insert_high}
use Rattle.sets.proofs.insert.Goals as goal

pub returns-then-s-lt64 : goal.returns-then-s-lt64
unfolding bits_of
returns-then-s-lt64 c = insert_low _ _ (omega arith) _ _ (omega arith) (omega arith) c.insert.ensures

pub returns : goal.returns
unfolding bits_of
returns c = insert_high _ _ (omega arith) _ _ (omega arith) c.insert-2.ensures
