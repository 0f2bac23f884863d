-- `all_assumed`.
use mathlib.Core.Bool.{true}
use mathlib.Core.Path.{◌≡◌}
use Prim.Native.Nat.{◌≤◌}
use Rattle.finite.specs.Bounded.{all}
use Rattle.sets.specs.Words.{bits_of}
use Rattle.board.specs.Board.{requirement_on}
use Rattle.region_dues.specs.Dues.{in_meets_at}
use Rattle.region_dues.proofs.all_assumed.Given as goal

abbrev pub invariant-loop-j : goal.invariant-loop-j
invariant-loop-j l = (l.j ≤ l.n) × (all l.j (in_meets_at (requirement_on l.b l.r) (bits_of l.c.0)) ≡ true)
