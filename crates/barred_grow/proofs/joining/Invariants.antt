-- `joining`.
use Rattle.sets.specs.Words.{bits_of, sets_in}
use Rattle.barred_grow.proofs.Rows.{Joining}
use Rattle.barred_grow.proofs.joining.Given as goal

abbrev pub invariant-loop-t : goal.invariant-loop-t
invariant-loop-t l =
    Joining (bits_of l.initial.t-iterator.rest) (sets_in l.s) l.i (bits_of l.x) (bits_of l.t-iterator.rest)
