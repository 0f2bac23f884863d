-- `exhaust` meets its contract.
use Prim.Native.Nat.{◌-◌}
use Rattle.checker_search.proofs.Grow.{Exhausting}
use Rattle.checker_search.proofs.exhaust.Given as goal

abbrev pub invariant-loop-a : goal.invariant-loop-a
invariant-loop-a l =
    Exhausting l.inputs l.places l.moves l.to l.within l.initial.mark l.initial.queue l.initial.from l.n l.mark l.queue l.from l.found l.a

abbrev pub decreases-loop-a : goal.decreases-loop-a
decreases-loop-a l = l.places - l.a
