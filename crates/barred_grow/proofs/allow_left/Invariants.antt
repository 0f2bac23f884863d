-- `allow_left`.
use Rattle.sets.specs.Words.{bits_of, sets_in}
use Prim.Native.Nat.{ℕ}
use mathlib.Core.Path.{◌≡◌}
use mathlib.Core.List.{List}
use lib.ListN.{length}
use Rattle.barred_grow.specs.Grow.{Low, Grown}
use Rattle.barred_grow.proofs.allow_left.Given as goal

abbrev pub invariant-loop-j : goal.invariant-loop-j
invariant-loop-j l =
    (length l.s ≡ length l.initial.s)
    × ((ins : List ℕ) (x : ℕ) → Grown ins (sets_in l.outs) l.n (bits_of l.goal.0) x x (sets_in l.initial.s) (sets_in l.s))
    × Low l.n (bits_of l.j-iterator.rest)
