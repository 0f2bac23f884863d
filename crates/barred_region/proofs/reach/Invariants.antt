-- `reach`.
use Prim.Native.Nat.{◌*◌, ◌-◌}
use mathlib.Core.Path.{◌≡◌}
use lib.ListN.{length}
use Rattle.sets.specs.Words.{bits_of, sets_in}
use Rattle.barred_rows.specs.Areas.{reached_pairs}
use Rattle.barred_region.proofs.Among.{counted}
use Rattle.barred_region.proofs.Widening.{Reaching}
use Rattle.barred_region.proofs.reach.Given as goal

abbrev pub invariant-loop-g : goal.invariant-loop-g
invariant-loop-g l =
    (length l.s ≡ length l.initial.s) × Reaching l.g (bits_of l.goal.0) (sets_in l.initial.s) (sets_in l.s)

abbrev pub decreases-loop-g : goal.decreases-loop-g
decreases-loop-g l = l.g.input.states * l.g.output.states - counted l.g (reached_pairs (sets_in l.s))
