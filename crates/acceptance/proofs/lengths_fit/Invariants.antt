-- `lengths_fit` looks at the lengths of all eight places.
use mathlib.Core.Path.{◌≡◌}
use mathlib.Core.Bool.{true}
use Prim.Native.Nat.{◌≤◌, ◌-◌}
use Rattle.finite.specs.Bounded.{all}
use Rattle.game.specs.Acceptance.{few_sets_at}
use Rattle.acceptance.proofs.lengths_fit.Given as goal

abbrev pub invariant-loop-p : goal.invariant-loop-p
invariant-loop-p l = (l.p ≤ 8) × (all l.p (few_sets_at l.g) ≡ true)
