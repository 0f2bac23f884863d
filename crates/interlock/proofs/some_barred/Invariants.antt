-- `some_barred`.
use Prim.Native.Nat.{◌≤◌}
use mathlib.Core.Path.{◌≡◌}
use mathlib.Core.Bool.{false, not}
use lib.Dec.{eqb}
use lib.ListN.{length, get_or}
use Rattle.finite.specs.Bounded.{any}
use Rattle.sets.specs.Words.{sets_in}
use Rattle.interlock.proofs.some_barred.Given as goal

abbrev pub invariant-loop-i : goal.invariant-loop-i
invariant-loop-i l = (l.i ≤ length (sets_in l.bars)) × (any l.i (λ k. not (eqb (get_or (sets_in l.bars) k 0) 0)) ≡ false)
