-- `count_bounded` counts no more graphs than it tries.
use Prim.Native.Nat.{◌≤◌}
use Rattle.check_sweeps.proofs.count_bounded.Given as goal

abbrev pub invariant-loop-code : goal.invariant-loop-code
invariant-loop-code l = (l.kept ≤ l.code) × (l.code ≤ l.codes)
