-- `put_rank` writes the lowest place that is left, until none is.
use Prim.Native.Nat.{◌+◌}
use Rattle.sets.specs.Words.{bits_of}
use Rattle.graph_ranks.proofs.Ranks.{Putting}
use Rattle.graph_ranks.proofs.put_rank.Given as goal

abbrev pub invariant-loop-t : goal.invariant-loop-t
invariant-loop-t l = Putting (◌+◌ l.n) (bits_of l.fn.c) l.rank l.initial.room l.room (bits_of l.t-iterator.rest)
