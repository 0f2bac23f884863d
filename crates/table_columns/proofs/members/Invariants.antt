-- `members` writes the lowest counter that is left, until none is.
use Rattle.finite.specs.Bounded.{count}
use Rattle.bits.specs.Member.{has}
use Rattle.table_counters.specs.Counters.{counter_capacity}
use Rattle.table_columns.proofs.Columns.{Columning}
use Rattle.table_columns.proofs.members.Given as goal

abbrev pub invariant-loop-rest : goal.invariant-loop-rest
invariant-loop-rest l = Columning l.initial.room l.room l.base l.step l.initial.rest.0 l.first l.more l.rest.0

abbrev pub decreases-loop-rest : goal.decreases-loop-rest
decreases-loop-rest l = count counter_capacity (has l.rest.0)
