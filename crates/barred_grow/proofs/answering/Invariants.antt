-- `answering`.
use Rattle.bits.specs.Member.{has}
use Rattle.sets.specs.Words.{capacity, bits_of, sets_in}
use Prim.Native.Nat.{ℕ}
use mathlib.Core.Path.{◌≡◌}
use mathlib.Core.Bool.{true}
use lib.ListN.{get_or}
use Rattle.bits.specs.Member.{sets_meet}
use Rattle.barred_grow.specs.Grow.{Low}
use Rattle.barred_grow.proofs.answering.Given as goal

abbrev pub invariant-loop-o : goal.invariant-loop-o
invariant-loop-o l =
    ((o : ℕ) → has (bits_of l.c) o ≡ true → sets_meet capacity (get_or (sets_in l.moves) o 0) (bits_of l.x) ≡ true)
    × Low l.m (bits_of l.o-iterator.rest)
