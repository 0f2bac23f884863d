-- `comes_back` tests the lowest state that is left, until one is together with s.
use Rattle.bits.proofs.Passing.{Passing}
use Rattle.sets.specs.Words.{capacity, bits_of, sets_in}
use Rattle.graph_components.proofs.Steps.{apart}
use Rattle.graph_components.proofs.comes_back.Given as goal

abbrev pub invariant-loop-t : goal.invariant-loop-t
invariant-loop-t l = Passing capacity (bits_of l.initial.t-iterator.rest) capacity (apart (sets_in l.rows) l.s) (bits_of l.t-iterator.rest)
