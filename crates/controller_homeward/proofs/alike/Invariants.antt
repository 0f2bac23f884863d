-- `alike` visits the members of x.
use Rattle.bits.proofs.Visit.{Collected}
use Rattle.sets.specs.Words.{capacity, bits_of, sets_in}
use Rattle.controller_homeward.specs.Homes.{alike_at}
use Rattle.controller_homeward.proofs.alike.Given as goal

abbrev pub invariant-loop-j : goal.invariant-loop-j
invariant-loop-j l =
    Collected capacity (bits_of l.initial.j-iterator.rest) l.n (alike_at (sets_in l.s) l.n l.d.0 (bits_of l.homes.0)) (bits_of l.j-iterator.rest) (bits_of l.y)
