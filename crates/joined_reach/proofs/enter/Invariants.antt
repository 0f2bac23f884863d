-- `enter`.
use Rattle.finite.specs.Bounded.{count}
use Rattle.bits.specs.Member.{has}
use Rattle.joined_reach.proofs.Rows.{Entering}
use Rattle.joined_reach.proofs.enter.Given as goal

abbrev pub invariant-loop-rest : goal.invariant-loop-rest
invariant-loop-rest l = Entering l.initial.rest l.y.0 l.initial.left.0 l.rest l.left.0 l.initial.s l.s

abbrev pub decreases-loop-rest : goal.decreases-loop-rest
decreases-loop-rest l = count 64 (has l.rest)
