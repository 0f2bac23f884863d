-- `empty`.
use Prim.Native.Nat.{◌≤◌}
use mathlib.Core.Path.{◌≡◌}
use lib.ListN.{length}
use Rattle.sets.specs.Words.{sets_in}
use Rattle.barred_rows.specs.Areas.{Emptied}
use Rattle.barred_rows.proofs.empty.Given as goal

abbrev pub invariant-loop-i : goal.invariant-loop-i
invariant-loop-i l = (l.i ≤ l.n) × (length l.s ≡ length l.initial.s) × Emptied l.i l.at (sets_in l.initial.s) (sets_in l.s)
