-- `answering`.
use Prim.Native.Nat.{◌≤◌}
use mathlib.Core.Path.{◌≡◌}
use lib.ListN.{get_or}
use Rattle.bits.specs.Member.{sets_meet, pack}
use Rattle.sets.specs.Words.{capacity, bits_of, sets_in}
use Rattle.barred_stay.proofs.answering.Given as goal

abbrev pub invariant-loop-o : goal.invariant-loop-o
invariant-loop-o l = (l.o ≤ l.m) × (bits_of l.c ≡ pack l.o (λ q. sets_meet capacity (get_or (sets_in l.moves) q 0) (bits_of l.x.0)))
