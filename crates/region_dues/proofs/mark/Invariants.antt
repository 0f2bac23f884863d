-- `mark`. Invariant: the sets of the first q requirements are done.
use Prim.Native.Nat.{◌≤◌}
use mathlib.Core.Path.{◌≡◌}
use lib.ListN.{length}
use Rattle.sets.specs.Words.{bits_of, sets_in}
use Rattle.region_dues.specs.Dues.{Marked}
use Rattle.region_dues.proofs.mark.Given as goal

abbrev pub invariant-loop-q : goal.invariant-loop-q
invariant-loop-q l = (l.q ≤ l.n) × Marked l.b l.from l.q (bits_of l.c.0) (sets_in l.initial.t) (sets_in l.t) × (length l.t ≡ length l.initial.t)
