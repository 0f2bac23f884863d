-- `scan` meets its contract.
use Rattle.checker_reach.proofs.Gaps.{Clean}
use Rattle.checker_reach.proofs.scan.Given as goal

abbrev pub invariant-loop-k : goal.invariant-loop-k
invariant-loop-k l = Clean l.inputs l.moves l.to l.queue l.n l.k
