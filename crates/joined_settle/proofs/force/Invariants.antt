-- `force`.
use Rattle.joined_settle.specs.Settle.{Growing, missing, Swept}
use Rattle.joined_settle.proofs.force.Given as goal

abbrev pub invariant-loop-g : goal.invariant-loop-g
invariant-loop-g l = Swept l.g l.initial.s l.s × Growing l.g l.s

abbrev pub decreases-loop-g : goal.decreases-loop-g
decreases-loop-g l = missing l.g l.s
