-- `verdict`.
use mathlib.Core.Bool.{true}
use Rattle.finite.specs.Bounded.{all}
use Rattle.region_verdict.specs.Opens.{opens_if}
use mathlib.Core.Path.{◌≡◌}
use Prim.Native.Nat.{◌≤◌}
use Rattle.region_verdict.proofs.system_wins.Given as goal

abbrev pub invariant-loop-i : goal.invariant-loop-i
invariant-loop-i l = (l.i ≤ l.n) × (all l.i (opens_if l.g) ≡ true)
