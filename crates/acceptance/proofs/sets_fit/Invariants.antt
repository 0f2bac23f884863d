-- `sets_fit` looks at the sets of all eight places.
use mathlib.Core.Path.{◌≡◌}
use mathlib.Core.Bool.{true}
use Prim.Native.Nat.{◌≤◌, ◌-◌}
use Rattle.finite.specs.Bounded.{all}
use Rattle.game.specs.Acceptance.{requirement_fits_at}
use Rattle.acceptance.proofs.sets_fit.Given as goal

abbrev pub invariant-loop-r : goal.invariant-loop-r
invariant-loop-r l = (l.r ≤ 8) × (all l.r (requirement_fits_at l.g) ≡ true)
