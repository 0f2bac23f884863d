-- `pass`.
use Prim.Native.Nat.{◌-◌, ◌≤◌}
use mathlib.Core.Path.{◌≡◌}
use lib.ListN.{length}
use Rattle.sets.specs.Words.{sets_in}
use Rattle.game.specs.Access.{requirement_at}
use Rattle.barred_region.specs.Region.{Passed}
use Rattle.barred_region.proofs.pass.Given as goal

abbrev pub invariant-loop-j : goal.invariant-loop-j
invariant-loop-j l =
    (l.j ≤ (requirement_at l.g 0).guaranteed) × (length l.s ≡ length l.initial.s) × Passed l.g l.j (sets_in l.initial.s) (sets_in l.s) l.changed
