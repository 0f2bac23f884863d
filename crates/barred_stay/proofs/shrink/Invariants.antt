-- `shrink`.
use Prim.Native.Nat.{◌≤◌}
use mathlib.Core.Path.{◌≡◌}
use lib.ListN.{length}
use Rattle.sets.specs.Words.{bits_of, sets_in}
use Rattle.barred_stay.specs.Stay.{Shrunk}
use Rattle.barred_stay.proofs.shrink.Given as goal

abbrev pub invariant-loop-i : goal.invariant-loop-i
invariant-loop-i l =
    (l.i ≤ l.n) × (length l.s ≡ length l.initial.s)
    × Shrunk (sets_in l.moves) l.i l.next (bits_of l.allowed.0) (bits_of l.wait.0) (bits_of l.initial.more.0) (bits_of l.more.0) (sets_in l.initial.s) (sets_in l.s)
