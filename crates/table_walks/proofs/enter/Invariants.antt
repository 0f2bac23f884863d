-- `enter` goes through the states of own.
use Rattle.sets.specs.Words.{bits_of, sets_in}
use Rattle.table_walks.proofs.Staying.{Entered}
use Rattle.table_walks.proofs.enter.Given as goal

abbrev pub invariant-loop-s : goal.invariant-loop-s
invariant-loop-s l =
    Entered (sets_in l.rows) l.z (bits_of l.initial.s-iterator.rest) (bits_of l.target.0) l.b.0 (bits_of l.s-iterator.rest) l.initial.room l.room
