-- `solve`.
use Prim.Native.Nat.{◌+◌, ◌≤◌}
use Rattle.finite.specs.But.{ButFor}
use Rattle.joined.specs.Order.{Backward}
use Rattle.joined.proofs.solve.Given as goal

abbrev pub invariant-loop-n : goal.invariant-loop-n
invariant-loop-n l = (1 ≤ l.n) × (l.n ≤ l.positions + 1) × (l.positions ≤ 1024) × ButFor 0 2048 l.initial.s l.s × Backward l.g l.n l.s
