-- `fill` writes one entry after the other.
use Prim.Native.Nat.{◌≤◌}
use mathlib.Core.Path.{◌≡◌}
use mathlib.Core.List.{◌++◌}
use lib.ListN.{length, drop}
use Rattle.finite.specs.Tabulate.{tabulate}
use Rattle.explain_all.specs.All.{position_entry}
use Rattle.explain_all.proofs.fill.Given as goal

abbrev pub invariant-loop-p : goal.invariant-loop-p
invariant-loop-p l = (l.p ≤ l.n) × (length l.grounds ≡ length l.initial.grounds) × (l.grounds ≡ tabulate l.p (position_entry l.g) ++ drop l.p l.initial.grounds)
