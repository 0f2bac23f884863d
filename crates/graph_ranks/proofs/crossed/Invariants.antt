-- `crossed` joins the places that the moves of each state cross.
use Prim.Native.Nat.{◌≤◌}
use Rattle.sets.specs.Words.{bits_of, sets_in}
use Rattle.graph_ranks.specs.Search.{Crossed}
use Rattle.graph_ranks.proofs.crossed.Given as goal

abbrev pub invariant-loop-t : goal.invariant-loop-t
invariant-loop-t l = (l.t ≤ l.n) × Crossed (sets_in l.moves) l.t (bits_of l.found)
