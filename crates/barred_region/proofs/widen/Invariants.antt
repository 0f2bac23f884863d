-- `widen`.
use Prim.Native.Nat.{◌+◌, ◌≤◌}
use mathlib.Core.Path.{◌≡◌}
use mathlib.Core.Bool.{false}
use lib.ListN.{length}
use Rattle.sets.specs.Words.{bits_of, sets_in}
use Rattle.game.specs.Access.{requirement_at}
use Rattle.barred_region.specs.Region.{Widened}
use Rattle.barred_region.proofs.widen.Given as goal

abbrev pub invariant-loop-j : goal.invariant-loop-j
invariant-loop-j l =
    (l.j ≤ (requirement_at l.g 0).assumed + 1) × (length l.s ≡ length l.initial.s) × Widened l.g (bits_of l.goal.0) l.j (sets_in l.initial.s) (sets_in l.s) false
