-- `exits` visits the members of c.
use lib.ListN.{get_or}
use Rattle.bits.specs.Member.{sets_meet}
use Rattle.bits.proofs.Visit.{Collected}
use Rattle.sets.specs.Words.{capacity, bits_of, sets_in}
use Rattle.environment_escape.proofs.exits.Given as goal

abbrev pub invariant-loop-k : goal.invariant-loop-k
invariant-loop-k l =
    Collected capacity (bits_of l.initial.k-iterator.rest) l.n (λ k. sets_meet capacity (get_or (sets_in l.moves) k 0) (bits_of l.out.0))
    (bits_of l.k-iterator.rest) (bits_of l.x)
