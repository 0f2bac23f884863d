-- `front` writes the entries of the counters below h.
use Prim.Native.Nat.{◌≤◌}
use Rattle.table_columns.specs.Column.{Front}
use Rattle.table_columns.proofs.front.Given as goal

abbrev pub invariant-loop-h : goal.invariant-loop-h
invariant-loop-h l = (l.h ≤ l.count) × Front l.initial.room l.room l.base l.step l.count l.first l.more l.h
