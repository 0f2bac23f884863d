-- `turn_row`.
use Rattle.sets.specs.Words.{bits_of, sets_in}
use mathlib.Core.Path.{◌≡◌}
use Prim.Native.Nat.{◌+◌}
use lib.ListN.{length}
use Rattle.finite.specs.But.{ButFor}
use Rattle.barred_grow.specs.Grow.{Low}
use Rattle.barred_grow.proofs.turn_row.Given as goal

abbrev pub invariant-loop-t : goal.invariant-loop-t
invariant-loop-t l =
    (length l.s ≡ length l.initial.s)
    × ButFor l.at (l.at + l.n) (sets_in l.initial.s) (sets_in l.s)
    × Low l.n (bits_of l.t-iterator.rest)
