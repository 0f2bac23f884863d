-- `first_lost_exit`.
use mathlib.Core.Bool.{false}
use mathlib.Core.Path.{◌≡◌}
use Prim.Native.Nat.{◌≤◌}
use Rattle.finite.specs.Bounded.{any}
use Rattle.grounds.specs.Ground.{lost_exit}
use Rattle.play.specs.Play.{separated_of}
use Rattle.ground_search.proofs.first_lost_exit.Given as goal

abbrev pub invariant-loop-j : goal.invariant-loop-j
invariant-loop-j l = (l.j ≤ l.n) × (any l.j (lost_exit (separated_of l.g) l.i.0 l.o.0) ≡ false)
