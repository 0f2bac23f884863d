-- `count_ahead`.
use Prim.Native.Nat.{◌≤◌}
use Rattle.joined_reach.proofs.Counting.{Ranking}
use Rattle.joined_reach.proofs.count_ahead.Given as goal

abbrev pub invariant-loop-c : goal.invariant-loop-c
invariant-loop-c l = (l.c ≤ l.positions) × (l.positions ≤ 1024) × Ranking l.g l.c l.initial.s l.s
