-- `among` goes through the inputs, with the column of the next leader.
use Rattle.sets.specs.Words.{bits_of}
use Rattle.controller_rows.proofs.Columns.{Among}
use Rattle.controller_rows.proofs.leaders.among.Given as goal

abbrev pub invariant-loop-j : goal.invariant-loop-j
invariant-loop-j l = Among l.fn.z (bits_of l.x.0) l.j l.b (bits_of l.r)
