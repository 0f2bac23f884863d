-- `open` meets its contract.
use Rattle.checker_reach.proofs.Opening.{Opening}
use Rattle.checker_reach.proofs.open.Given as goal

abbrev pub invariant-loop-i : goal.invariant-loop-i
invariant-loop-i l = Opening l.g l.places l.table l.mark l.queue l.from l.found l.i
