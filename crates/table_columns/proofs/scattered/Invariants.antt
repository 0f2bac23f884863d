-- `scattered` writes the lowest place that is left, until none is. Invariant: what the low places left holds of the places that are left.
use Prim.Native.Nat.{ℕ}
use mathlib.Core.List.{List}
use Rattle.sets.specs.Words.{bits_of}
use Rattle.table_columns.specs.Scattering.{Scattering}
use Rattle.table_columns.proofs.scattered.Given as goal

abbrev pub invariant-loop-x : goal.invariant-loop-x
invariant-loop-x l =
    (n : ℕ) (x : List ℕ) (over : ℕ) → Scattering n x l.initial.room l.base l.width over l.value (bits_of l.initial.x-iterator.rest)
    → Scattering n x l.room l.base l.width over l.value (bits_of l.x-iterator.rest)
