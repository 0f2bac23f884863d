-- `mark` names the lowest input that is left, until none is.
use Prim.Native.Nat.{◌-◌}
use Rattle.sets.specs.Words.{bits_of}
use Rattle.graph_ranks.proofs.Ranks.{Putting}
use Rattle.compact_checks.proofs.mark.Given as goal

abbrev pub invariant-loop-t : goal.invariant-loop-t
invariant-loop-t l = Putting (λ t. t - l.part) (bits_of l.initial.t-iterator.rest) l.s l.initial.firsts l.firsts (bits_of l.t-iterator.rest)
