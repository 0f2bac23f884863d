-- `unmark` meets its contract.
use Rattle.checker_search.proofs.Ways.{Unmarking}
use Rattle.checker_search.proofs.unmark.Given as goal

abbrev pub invariant-loop-k : goal.invariant-loop-k
invariant-loop-k l = Unmarking l.queue l.n l.mark l.k
