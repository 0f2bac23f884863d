-- `by_columns` writes the column of the lowest place that is left, until none is.
use Rattle.sets.specs.Words.{bits_of}
use Rattle.table_columns.proofs.Blocks.{Blocking}
use Rattle.table_columns.proofs.by_columns.Given as goal

abbrev pub invariant-loop-x : goal.invariant-loop-x
invariant-loop-x l = Blocking l.initial.room l.room l.base l.width (bits_of l.initial.x-iterator.rest) l.which.0 l.first l.more (bits_of l.x-iterator.rest)
