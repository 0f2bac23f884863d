-- `cut` meets its contract.
use Rattle.checker_rounds.proofs.Cuts.{Cutting}
use Rattle.checker_rounds.proofs.cut.Given as goal

abbrev pub invariant-loop-k : goal.invariant-loop-k
invariant-loop-k l = Cutting l.initial.kept l.queue l.n l.kept l.k
