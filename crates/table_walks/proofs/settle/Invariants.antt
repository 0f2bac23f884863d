-- `settle` tries the lowest state that is left to try, until none is. Invariant: what the low states left holds of the states that are left.
use Prim.Native.Nat.{ℕ}
use mathlib.Core.List.{List}
use Rattle.sets.specs.Words.{bits_of, sets_in}
use Rattle.table_walks.specs.Trying.{Trying}
use Rattle.table_walks.proofs.settle.Given as goal

abbrev pub invariant-loop-t : goal.invariant-loop-t
invariant-loop-t l =
    (x : List ℕ)
    → Trying (sets_in l.rows) l.z (bits_of l.inside) (bits_of l.left) (bits_of l.reached) l.w x l.initial.room (bits_of l.initial.settled)
    (bits_of l.initial.t-iterator.rest)
    → Trying (sets_in l.rows) l.z (bits_of l.inside) (bits_of l.left) (bits_of l.reached) l.w x l.room (bits_of l.settled) (bits_of l.t-iterator.rest)
