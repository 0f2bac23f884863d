-- `settle_rank`.
use Prim.Native.Nat.{◌≤◌}
use Rattle.joined.specs.Order.{Passed}
use Rattle.joined.proofs.settle_rank.Given as goal

abbrev pub invariant-loop-c : goal.invariant-loop-c
invariant-loop-c l = (l.c ≤ l.positions) × (l.positions ≤ 1024) × Passed l.g l.n l.c l.initial.s l.s
