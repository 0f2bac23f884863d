-- `settled` collects the inputs whose lowest home in reach is d.
use Rattle.bits.proofs.Visit.{Collected}
use Rattle.sets.specs.Words.{capacity, bits_of, sets_in}
use Rattle.scratch.specs.Stored.{row_at}
use Rattle.controller_homeward.specs.Homes.{lowest_is}
use Rattle.controller_homeward.proofs.settled.Given as goal

abbrev pub invariant-loop-j : goal.invariant-loop-j
invariant-loop-j l =
    Collected capacity (bits_of l.initial.j-iterator.rest) l.n (λ j. lowest_is (row_at (sets_in l.s) l.n j) (bits_of l.reach.0) l.d.0)
    (bits_of l.j-iterator.rest) (bits_of l.x)
