-- `moving`.
use Rattle.sets.specs.Words.{bits_of}
use Rattle.barred_grow.specs.Grow.{Low}
use Rattle.barred_grow.proofs.moving.Given as goal

abbrev pub invariant-loop-t : goal.invariant-loop-t
invariant-loop-t l =
    Low l.m (bits_of l.t-iterator.rest)
