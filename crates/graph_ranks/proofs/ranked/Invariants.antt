-- `ranked` reads the lowest place that is left, until none is.
use Rattle.sets.specs.Words.{bits_of}
use Rattle.graph_ranks.proofs.Ranks.{Checking}
use Rattle.graph_ranks.proofs.ranked.Given as goal

abbrev pub invariant-loop-t : goal.invariant-loop-t
invariant-loop-t l = Checking l.n (bits_of l.fn.c) l.rank l.table (bits_of l.t-iterator.rest)
