-- `settling` collects the inputs with a home in reach.
use Rattle.bits.specs.Member.{sets_meet}
use Rattle.bits.proofs.Visit.{Collected}
use Rattle.sets.specs.Words.{capacity, bits_of, sets_in}
use Rattle.scratch.specs.Stored.{row_at}
use Rattle.controller_opening.proofs.unsettled.settling.Given as goal

abbrev pub invariant-loop-j : goal.invariant-loop-j
invariant-loop-j l =
    Collected capacity (bits_of l.initial.j-iterator.rest) l.n (λ j. sets_meet capacity (row_at (sets_in l.s) l.n j) (bits_of l.reach.0))
    (bits_of l.j-iterator.rest) (bits_of l.y)
