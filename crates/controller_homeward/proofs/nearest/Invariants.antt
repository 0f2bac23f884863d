-- `nearest` visits the members of x that are no homes.
use Rattle.bits.proofs.Visit.{Collected}
use Rattle.sets.specs.Words.{capacity, bits_of, sets_in}
use Rattle.controller_homeward.specs.Homes.{avoids_at}
use Rattle.controller_homeward.proofs.nearest.Given as goal

abbrev pub invariant-loop-o : goal.invariant-loop-o
invariant-loop-o l =
    Collected capacity (bits_of l.initial.o-iterator.rest) l.m (avoids_at (sets_in l.s) l.n (bits_of l.homes.0)) (bits_of l.o-iterator.rest) (bits_of l.y)
