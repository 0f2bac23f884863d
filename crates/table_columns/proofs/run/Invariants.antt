-- `run` writes the places below x.
use Prim.Native.Nat.{◌≤◌}
use Rattle.table_columns.specs.Column.{Run}
use Rattle.table_columns.proofs.run.Given as goal

abbrev pub invariant-loop-x : goal.invariant-loop-x
invariant-loop-x l = (l.x ≤ l.width) × Run l.initial.room l.room l.base l.width l.value l.x
