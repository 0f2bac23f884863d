-- `all_open`.
use Prim.Native.Nat.{◌≤◌}
use mathlib.Core.Path.{◌≡◌}
use mathlib.Core.Bool.{true}
use lib.ListN.{get_or}
use Rattle.finite.specs.Bounded.{all}
use Rattle.sets.specs.Words.{sets_in}
use Rattle.interlock.specs.Bars.{opens_row}
use Rattle.interlock.proofs.all_open.Given as goal

abbrev pub invariant-loop-i : goal.invariant-loop-i
invariant-loop-i l = (l.i ≤ l.n) × (all l.i (λ k. opens_row l.g (get_or (sets_in l.s) k 0) k) ≡ true)
