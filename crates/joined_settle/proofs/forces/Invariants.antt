-- `forces`.
use Rattle.finite.specs.Bounded.{count}
use Rattle.bits.specs.Member.{has}
use Rattle.bits.proofs.Passing.{Passing}
use Rattle.joined_component.proofs.Tests.{enters}
use Rattle.joined_settle.proofs.forces.Given as goal

abbrev pub invariant-loop-rest : goal.invariant-loop-rest
invariant-loop-rest l = Passing 64 l.initial.rest 32 (enters l.s 64 l.moves.0) l.rest

abbrev pub decreases-loop-rest : goal.decreases-loop-rest
decreases-loop-rest l = count 64 (has l.rest)
