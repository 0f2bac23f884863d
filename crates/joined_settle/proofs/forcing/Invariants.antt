-- `forcing`.
use Rattle.finite.specs.Bounded.{count}
use Rattle.bits.specs.Member.{has}
use Rattle.bits.proofs.Visit.{Collected}
use Rattle.theory.specs.Region.{replies}
use Rattle.play.specs.Play.{separated_of}
use Rattle.joined_component.specs.Component.{won}
use Rattle.joined_settle.proofs.forcing.Given as goal

abbrev pub invariant-loop-rest : goal.invariant-loop-rest
invariant-loop-rest l = Collected 64 l.initial.rest l.g.output.states (replies (separated_of l.g) (won l.g l.s) l.i.0) l.rest l.c

abbrev pub decreases-loop-rest : goal.decreases-loop-rest
decreases-loop-rest l = count 64 (has l.rest)
