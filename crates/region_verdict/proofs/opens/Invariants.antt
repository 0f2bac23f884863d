-- `opens`.
use mathlib.Core.Bool.{false}
use Rattle.finite.specs.Bounded.{any}
use Rattle.region_verdict.specs.Opens.{opens_with}
use mathlib.Core.Path.{◌≡◌}
use Prim.Native.Nat.{◌≤◌}
use Rattle.region_verdict.proofs.opens.Given as goal

abbrev pub invariant-loop-o : goal.invariant-loop-o
invariant-loop-o l = (l.o ≤ l.m) × (any l.o (opens_with l.g l.i.0) ≡ false)
