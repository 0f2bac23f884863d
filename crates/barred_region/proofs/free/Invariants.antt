-- `free`.
use Prim.Native.Nat.{◌-◌, ◌≤◌}
use mathlib.Core.Path.{◌≡◌}
use lib.ListN.{length}
use Rattle.sets.specs.Words.{sets_in}
use Rattle.barred_region.specs.Region.{Freed}
use Rattle.barred_region.proofs.free.Given as goal

abbrev pub invariant-loop-i : goal.invariant-loop-i
invariant-loop-i l = (l.i ≤ l.fn.g.input.states) × (length l.s ≡ length l.initial.s) × Freed l.fn.g l.i (sets_in l.bars) (sets_in l.initial.s) (sets_in l.s)
