-- `turn`.
use Rattle.sets.specs.Words.{sets_in}
use Prim.Native.Nat.{◌+◌, ◌≤◌}
use mathlib.Core.Path.{◌≡◌}
use lib.ListN.{length}
use Rattle.finite.specs.But.{ButFor}
use Rattle.barred_grow.proofs.turn.Given as goal

abbrev pub invariant-loop-i : goal.invariant-loop-i
invariant-loop-i l =
    (l.i ≤ l.n) × (length l.s ≡ length l.initial.s) × ButFor l.at (l.at + l.n) (sets_in l.initial.s) (sets_in l.s)
