-- `begun` collects the inputs at which a run begins.
use Rattle.bits.proofs.Visit.{Collected}
use Rattle.sets.specs.Words.{capacity, bits_of, sets_in}
use Rattle.region_runs.specs.Runs.{begins_at}
use Rattle.region_runs.proofs.begun.Given as goal

abbrev pub invariant-loop-j : goal.invariant-loop-j
invariant-loop-j l =
    Collected capacity (bits_of l.initial.j-iterator.rest) l.n (begins_at (sets_in l.s) l.n (bits_of l.c.0)) (bits_of l.j-iterator.rest) (bits_of l.x)
