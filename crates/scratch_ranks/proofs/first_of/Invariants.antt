-- `first_of` looks at the leaders that i reaches.
use Rattle.finite.specs.Bounded.{count}
use Rattle.bits.specs.Member.{has}
use Rattle.sets.specs.Words.{capacity, bits_of}
use Rattle.scratch_ranks.proofs.First.{Searching}
use Rattle.scratch_ranks.proofs.first_of.Given as goal

abbrev pub invariant-loop-rest : goal.invariant-loop-rest
invariant-loop-rest l = Searching l.s l.i.0 (bits_of l.initial.rest) (bits_of l.rest)

abbrev pub decreases-loop-rest : goal.decreases-loop-rest
decreases-loop-rest l = count capacity (has (bits_of l.rest))
