-- `meet`.
use Rattle.barred_rows.proofs.Merging.{Merging, lost}
use Rattle.barred_rows.proofs.meet.Given as goal

abbrev pub invariant-loop-i : goal.invariant-loop-i
invariant-loop-i l = Merging lost lost l.n l.from l.to l.initial.s l.s l.i l.shrank
