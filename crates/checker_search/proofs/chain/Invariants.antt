-- `chain` meets its contract.
use Rattle.checker_search.proofs.Ways.{Chaining}
use Rattle.checker_search.proofs.chain.Given as goal

abbrev pub invariant-loop-k : goal.invariant-loop-k
invariant-loop-k l = Chaining l.queue l.from l.k-2 l.out l.k l.i

abbrev pub decreases-loop-k : goal.decreases-loop-k
decreases-loop-k l = l.k
