-- `component` gathers the states that lead back. Invariant: of the states that `pruned` has left, those outside `rest` that lead back are gathered.
use Rattle.finite.specs.Bounded.{count}
use Rattle.bits.specs.Member.{has}
use Rattle.bits.proofs.Visit.{Collected}
use Rattle.sets.specs.Words.{capacity, bits_of, sets_in}
use Rattle.graph_components.proofs.Pruning.{leads_back}
use Rattle.graph_components.proofs.component.Given as goal

abbrev pub invariant-loop-rest : goal.invariant-loop-rest
invariant-loop-rest l = Collected capacity (bits_of l.initial.rest) l.n (leads_back (sets_in l.rows) l.s) (bits_of l.rest) (bits_of l.c)

abbrev pub decreases-loop-rest : goal.decreases-loop-rest
decreases-loop-rest l = count capacity (has (bits_of l.rest))
