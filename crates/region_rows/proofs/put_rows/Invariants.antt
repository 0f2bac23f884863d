-- `put_rows`. Invariant: the rows of the inputs of a stand, but those of `rest`.
use Rattle.sets.specs.Words.{bits_of}
use Rattle.region_rows.proofs.Rows.{Putting}
use Rattle.region_rows.proofs.put_rows.Given as goal

abbrev pub invariant-loop-i : goal.invariant-loop-i
invariant-loop-i l = Putting l.n (bits_of l.fn.a.0) (bits_of l.r.0) l.initial.s (bits_of l.i-iterator.rest) l.s
