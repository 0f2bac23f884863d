-- `states_fit` looks at the initial states, at the rows past the count together, and then at every other row.
use mathlib.Core.Path.{◌≡◌}
use mathlib.Core.Bool.{true}
use Prim.Native.Nat.{◌≤◌, ◌-◌}
use Rattle.finite.specs.Bounded.{all}
use Rattle.game.specs.Acceptance.{row_fits}
use Rattle.accept_graph.proofs.states_fit.Given as goal

abbrev pub invariant-loop-s : goal.invariant-loop-s
invariant-loop-s l = (l.s ≤ l.m) × (all l.s (row_fits l.g) ≡ true)
