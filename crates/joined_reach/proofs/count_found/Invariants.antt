-- `count_found`.
use Prim.Native.Nat.{◌*◌, ◌≤◌}
use mathlib.Core.Path.{◌≡◌}
use Rattle.joined_reach.specs.Reach.{found_below}
use Rattle.joined_reach.proofs.count_found.Given as goal

abbrev pub invariant-loop-i : goal.invariant-loop-i
invariant-loop-i l = (l.i ≤ l.fn.g.input.states) × (l.n ≤ 64 * l.i) × (l.n ≡ found_below l.fn.g l.s (l.i * l.fn.g.output.states))
