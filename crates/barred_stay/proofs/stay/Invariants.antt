-- `stay`.
use mathlib.Core.Path.{◌≡◌}
use lib.ListN.{length}
use Rattle.sets.specs.Words.{bits_of, sets_in}
use Rattle.barred_stay.proofs.Staying.{Staying, staying_measure}
use Rattle.barred_stay.proofs.stay.Given as goal

abbrev pub invariant-loop-g : goal.invariant-loop-g
invariant-loop-g l =
    (length l.s ≡ length l.initial.s) × Staying l.g (bits_of l.goal.0) (bits_of l.wait.0) (sets_in l.initial.s) (bits_of l.left.0) (sets_in l.s)

abbrev pub decreases-loop-g : goal.decreases-loop-g
decreases-loop-g l = staying_measure l.g (bits_of l.left.0) (sets_in l.s)
