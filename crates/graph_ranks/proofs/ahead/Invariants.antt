-- `ahead` follows the lowest waiting state, until none waits.
use Rattle.finite.specs.Bounded.{count}
use Rattle.sets.specs.Words.{capacity, bits_of, sets_in}
use Rattle.graph_ranks.proofs.Search.{Going, pending}
use Rattle.graph_ranks.proofs.ahead.Given as goal

abbrev pub invariant-loop-inside : goal.invariant-loop-inside
invariant-loop-inside l = Going (sets_in l.moves) (bits_of l.inside) l.s (bits_of l.found) (bits_of l.waiting)

abbrev pub decreases-loop-inside : goal.decreases-loop-inside
decreases-loop-inside l = count capacity (pending (bits_of l.found) (bits_of l.waiting))
