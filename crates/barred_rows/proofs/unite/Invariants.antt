-- `unite`.
use mathlib.Core.Bool.{◌||◌}
use Rattle.barred_rows.proofs.Merging.{Merging, gained}
use Rattle.barred_rows.proofs.unite.Given as goal

abbrev pub invariant-loop-i : goal.invariant-loop-i
invariant-loop-i l = Merging gained ◌||◌ l.n l.from l.to l.initial.s l.s l.i l.grew
