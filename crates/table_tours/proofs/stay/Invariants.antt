-- `stay` goes through the states of the component.
use Rattle.sets.specs.Words.{bits_of, sets_in}
use Rattle.table_tours.proofs.Courses.{Left}
use Rattle.table_tours.proofs.stay.Given as goal

abbrev pub invariant-loop-s : goal.invariant-loop-s
invariant-loop-s l = Left (sets_in l.moves) l.z (bits_of l.c.0) (bits_of l.w.over.0) l.w (bits_of l.s-iterator.rest) l.initial.room l.room
