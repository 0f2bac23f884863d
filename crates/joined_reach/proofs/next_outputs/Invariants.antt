-- `next_outputs`.
use Rattle.finite.specs.Bounded.{count}
use Rattle.bits.specs.Member.{has}
use Rattle.joined_reach.proofs.Rows.{Nexting}
use Rattle.joined_reach.proofs.next_outputs.Given as goal

abbrev pub invariant-loop-rest : goal.invariant-loop-rest
invariant-loop-rest l = Nexting l.g l.initial.rest l.rest l.y

abbrev pub decreases-loop-rest : goal.decreases-loop-rest
decreases-loop-rest l = count 64 (has l.rest)
