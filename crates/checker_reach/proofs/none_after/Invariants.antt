-- `none_after` meets its contract.
use Rattle.checker_reach.proofs.Gaps.{Passing}
use Rattle.sets.specs.Words.{bits_of}
use Rattle.checker_reach.proofs.none_after.Given as goal

abbrev pub invariant-loop-j : goal.invariant-loop-j
invariant-loop-j l = Passing l.inputs l.moves l.to l.c (bits_of l.j-iterator.rest)
