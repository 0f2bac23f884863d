-- `scattered_low` writes the lowest place that is left, until it is not low.
use lib.ListN.{length}
use Rattle.finite.specs.Bounded.{count}
use Rattle.bits.specs.Member.{has}
use Rattle.sets.specs.Words.{capacity, bits_of}
use Rattle.table_columns.specs.Scattering.{Scattering}
use Rattle.table_columns.proofs.scattered_low.Given as goal

abbrev pub invariant-loop-x : goal.invariant-loop-x
invariant-loop-x l = Scattering (length l.initial.room) l.initial.room l.room l.base l.width (bits_of l.initial.rest) l.value (bits_of l.rest)

abbrev pub decreases-loop-x : goal.decreases-loop-x
decreases-loop-x l = count capacity (has (bits_of l.rest))
