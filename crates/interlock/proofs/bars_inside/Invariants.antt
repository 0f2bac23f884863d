-- `bars_inside`.
use Prim.Native.Nat.{◌≤◌}
use mathlib.Core.Path.{◌≡◌}
use mathlib.Core.Bool.{true}
use lib.ListN.{length, get_or}
use Rattle.finite.specs.Bounded.{all}
use Rattle.bits.specs.Member.{within}
use Rattle.sets.specs.Words.{sets_in}
use Rattle.interlock.specs.Bars.{barrable}
use Rattle.interlock.proofs.bars_inside.Given as goal

abbrev pub invariant-loop-i : goal.invariant-loop-i
invariant-loop-i l = (l.i ≤ length (sets_in l.bars)) × (all l.i (λ k. within (get_or (sets_in l.bars) k 0) (barrable l.g k)) ≡ true)
