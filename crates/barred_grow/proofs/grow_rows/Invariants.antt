-- `grow_rows`.
use Rattle.sets.specs.Words.{bits_of, sets_in}
use Prim.Native.Nat.{ℕ}
use mathlib.Core.Path.{◌≡◌}
use mathlib.Core.List.{List}
use lib.ListN.{length}
use Rattle.barred_grow.specs.Grow.{Low, Grown}
use Rattle.barred_grow.proofs.grow_rows.Given as goal

abbrev pub invariant-loop-t : goal.invariant-loop-t
invariant-loop-t l =
    (length l.s ≡ length l.initial.s)
    × ((outs : List ℕ) (v : ℕ) → Grown (sets_in l.ins) outs l.n v 0 (bits_of l.more.0) (sets_in l.initial.s) (sets_in l.s))
    × Low l.n (bits_of l.t-iterator.rest)
