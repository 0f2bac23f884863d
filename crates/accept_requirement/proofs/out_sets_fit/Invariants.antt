-- `out_sets_fit` looks at every place.
use mathlib.Core.Path.{◌≡◌}
use mathlib.Core.Bool.{true}
use Prim.Native.Nat.{◌≤◌, ◌-◌}
use Rattle.finite.specs.Bounded.{all}
use Rattle.game.specs.Acceptance.{out_set_fits}
use Rattle.accept_requirement.proofs.out_sets_fit.Given as goal

abbrev pub invariant-loop-j : goal.invariant-loop-j
invariant-loop-j l = (l.j ≤ 4) × (all l.j (out_set_fits l.q l.n) ≡ true)
