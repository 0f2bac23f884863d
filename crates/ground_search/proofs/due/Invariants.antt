-- `due`.
use mathlib.Core.Bool.{true}
use mathlib.Core.Path.{◌≡◌}
use Prim.Native.Nat.{◌≤◌}
use Rattle.sets.specs.Words.{bits_of}
use Rattle.region_dues.specs.Dues.{in_meets}
use Rattle.ground_search.proofs.due.Given as goal

abbrev pub invariant-loop-j : goal.invariant-loop-j
invariant-loop-j l = (l.n ≤ 4) × (l.j ≤ l.n) × (in_meets l.q (bits_of l.a.0) l.j ≡ true)
