-- `plains` writes the rows of all outputs.
use Prim.Native.Nat.{◌≤◌}
use Rattle.sets.specs.Words.{bits_of, sets_in}
use Rattle.controller_rows.specs.Writes.{Plains}
use Rattle.controller_opening.proofs.unsettled.plains.Given as goal

abbrev pub invariant-loop-o : goal.invariant-loop-o
invariant-loop-o l = (l.o ≤ l.m) × Plains l.z (sets_in l.s) (bits_of l.c.0) (sets_in l.moves) l.o l.initial.room l.room
