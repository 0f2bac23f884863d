-- `fill`: the starts, then the rows of one output after the other, and scratch cleared.
use Prim.Native.Nat.{◌≤◌}
use Rattle.kit_rows.specs.Writing.{Outputs, Lent}
use Rattle.kit_rows.proofs.fill.Given as goal

abbrev pub invariant-loop-o : goal.invariant-loop-o
invariant-loop-o l =
    (l.o ≤ l.outputs) × Outputs l.k l.controller 0 l.o l.initial.room l.room × Lent l.k.old.modes l.initial.scratch l.scratch
