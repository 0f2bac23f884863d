-- `legs` meets its contract.
use Rattle.checker_rounds.proofs.Courses.{Going}
use Rattle.checker_rounds.proofs.legs.Given as goal

abbrev pub invariant-loop-j : goal.invariant-loop-j
invariant-loop-j l =
    Going l.inputs l.places l.moves l.to l.q l.kept l.v l.initial.mark l.mark l.queue l.from l.way l.walk l.end l.found l.length l.j
