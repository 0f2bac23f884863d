-- `serve` meets its contract.
use Rattle.checker_pairs.proofs.Serving.{Serving}
use Rattle.checker_pairs.proofs.serve.Given as goal

abbrev pub invariant-loop-b : goal.invariant-loop-b
invariant-loop-b l =
    Serving l.inputs l.places l.moves l.to l.counters l.q l.reached l.kept l.mark l.queue l.from l.way l.walk l.found l.b
