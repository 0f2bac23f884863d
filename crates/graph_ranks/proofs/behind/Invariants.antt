-- `behind` sweeps until a sweep finds nothing.
use Rattle.finite.specs.Bounded.{count}
use Rattle.sets.specs.Words.{capacity, bits_of, sets_in}
use Rattle.graph_ranks.proofs.Search.{Backing, missing}
use Rattle.graph_ranks.proofs.behind.Given as goal

abbrev pub invariant-loop-found : goal.invariant-loop-found
invariant-loop-found l = Backing (sets_in l.moves) (bits_of l.inside) l.s (bits_of l.found) (bits_of l.more)

abbrev pub decreases-loop-found : goal.decreases-loop-found
decreases-loop-found l = count capacity (missing (bits_of l.found))
