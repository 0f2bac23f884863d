-- `keep_safe`.
use Rattle.joined_settle.specs.Settle.{Shrinking, marked, Swept}
use Rattle.joined_settle.proofs.keep_safe.Given as goal

abbrev pub invariant-loop-g : goal.invariant-loop-g
invariant-loop-g l = Swept l.g l.initial.s l.s × Shrinking l.g l.s

abbrev pub decreases-loop-g : goal.decreases-loop-g
decreases-loop-g l = marked l.g l.s
