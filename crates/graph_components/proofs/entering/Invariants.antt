-- `entering` joins the rows of the states of c.
use Rattle.sets.specs.Words.{capacity, bits_of, sets_in}
use Rattle.graph_components.proofs.Steps.{Entered}
use Rattle.graph_components.proofs.entering.Given as goal

abbrev pub invariant-loop-k : goal.invariant-loop-k
invariant-loop-k l = Entered (sets_in l.moves) (bits_of l.initial.k-iterator.rest) capacity (bits_of l.k-iterator.rest) (bits_of l.x)
