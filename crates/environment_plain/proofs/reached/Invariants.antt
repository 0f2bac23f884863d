-- `reached` joins what the outputs of the set reach, lowest first.
use Rattle.sets.specs.Words.{bits_of, sets_in}
use Rattle.environment_table.proofs.Reading.{Reaching}
use Rattle.environment_plain.proofs.reached.Given as goal

abbrev pub invariant-loop-p : goal.invariant-loop-p
invariant-loop-p l = Reaching (sets_in l.s) l.n l.m (bits_of l.initial.p-iterator.rest) (bits_of l.p-iterator.rest) (bits_of l.x)
