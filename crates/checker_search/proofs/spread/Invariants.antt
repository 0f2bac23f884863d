-- `spread` meets its contract.
use Rattle.checker_search.proofs.Grow.{Spreading}
use Rattle.sets.specs.Words.{bits_of}
use Rattle.checker_search.proofs.spread.Given as goal

abbrev pub invariant-loop-j : goal.invariant-loop-j
invariant-loop-j l =
    Spreading l.inputs l.places l.moves l.to l.within l.finder l.at l.initial.mark l.initial.queue l.initial.from
    l.n l.mark l.queue l.from l.found (bits_of l.j-iterator.rest)
