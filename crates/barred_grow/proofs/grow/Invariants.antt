-- `grow`.
use mathlib.Core.Path.{◌≡◌}
use lib.ListN.{length}
use Rattle.sets.specs.Words.{bits_of, sets_in}
use Rattle.barred_grow.specs.Grow.{Grown}
use Rattle.barred_grow.proofs.Growing.{growing_measure}
use Rattle.barred_grow.proofs.grow.Given as goal

abbrev pub invariant-loop-g : goal.invariant-loop-g
invariant-loop-g l =
    (length l.s ≡ length l.initial.s)
    × Grown (sets_in l.g.input.moves) (sets_in l.g.output.moves) l.g.input.states (bits_of l.goal.0) (bits_of l.initial.left.0) (bits_of l.left.0) (sets_in l.initial.s) (sets_in l.s)

abbrev pub decreases-loop-g : goal.decreases-loop-g
decreases-loop-g l = growing_measure l.g (bits_of l.left.0) (sets_in l.s)
