-- `sweep` looks at each state that is left, the lowest first.
use Rattle.sets.specs.Words.{bits_of, sets_in}
use Rattle.graph_ranks.proofs.Search.{Sweeping}
use Rattle.graph_ranks.proofs.sweep.Given as goal

abbrev pub invariant-loop-t : goal.invariant-loop-t
invariant-loop-t l = Sweeping (sets_in l.moves) (bits_of l.fn.left) (bits_of l.initial.more) (bits_of l.more) (bits_of l.t-iterator.rest)
