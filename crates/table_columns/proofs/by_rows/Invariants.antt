-- `by_rows` writes the row of the lowest counter that is left, until none is.
use Rattle.finite.specs.Bounded.{count}
use Rattle.bits.specs.Member.{has}
use Rattle.sets.specs.Words.{bits_of}
use Rattle.table_counters.specs.Counters.{counter_capacity}
use Rattle.table_columns.proofs.Rows.{Rowing}
use Rattle.table_columns.proofs.by_rows.Given as goal

abbrev pub invariant-loop-inside : goal.invariant-loop-inside
invariant-loop-inside l = Rowing l.initial.room l.room l.base l.width (bits_of l.inside) l.initial.left.0 l.first l.more l.left.0

abbrev pub decreases-loop-inside : goal.decreases-loop-inside
decreases-loop-inside l = count counter_capacity (has l.left.0)
