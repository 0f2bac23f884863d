-- `ranked_row`.
use Rattle.finite.specs.Bounded.{count}
use Rattle.bits.specs.Member.{has}
use Rattle.bits.proofs.Visit.{Collected}
use Rattle.joined_component.specs.Component.{ranked_in}
use Rattle.joined_component.proofs.ranked_row.Given as goal

abbrev pub invariant-loop-rest : goal.invariant-loop-rest
invariant-loop-rest l = Collected 64 l.initial.rest l.m (ranked_in l.s l.m l.i l.n) l.rest l.c

abbrev pub decreases-loop-rest : goal.decreases-loop-rest
decreases-loop-rest l = count 64 (has l.rest)
