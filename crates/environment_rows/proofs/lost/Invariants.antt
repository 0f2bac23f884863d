-- `lost` visits the members of x.
use Rattle.bits.proofs.Visit.{Collected}
use Rattle.sets.specs.Words.{capacity, bits_of, sets_in}
use Rattle.environment_table.specs.Reading.{lost_at}
use Rattle.environment_rows.proofs.lost.Given as goal

abbrev pub invariant-loop-j : goal.invariant-loop-j
invariant-loop-j l =
    Collected capacity (bits_of l.initial.j-iterator.rest) l.n (lost_at (sets_in l.s) l.n (bits_of l.inner.0) l.o.0) (bits_of l.j-iterator.rest) (bits_of l.y)
