-- `judge` meets its contract.
use Rattle.checker_pairs.proofs.Serving.{Judging}
use Rattle.checker_pairs.proofs.judge.Given as goal

abbrev pub invariant-loop-r : goal.invariant-loop-r
invariant-loop-r l =
    Judging l.inputs l.places l.moves l.to l.counters l.g l.reached l.kept l.mark l.queue l.from l.way l.walk l.found l.r
