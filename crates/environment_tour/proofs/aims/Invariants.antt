-- `aims` goes through the requirements.
use Prim.Native.Nat.{◌≤◌}
use Rattle.sets.specs.Words.{bits_of}
use Rattle.table_sizes.specs.Below.{assumption_side}
use Rattle.table_sizes.specs.Numbered.{Upto}
use Rattle.table_layout.specs.Rows.{Filled}
use Rattle.table_tours.specs.Course.{GoalWithin}
use Rattle.environment_table.specs.Table.{entries_of}
use Rattle.environment_tour.proofs.aims.Given as goal

abbrev pub invariant-loop-r : goal.invariant-loop-r
invariant-loop-r l =
    (l.r ≤ l.g.k) × (l.g.k ≤ 8) × Upto assumption_side l.g l.r l.n
    × Filled l.z (entries_of l.g) (GoalWithin l.z (bits_of l.c.0) (bits_of l.over.0) l.q.0 0 l.n) l.initial.room l.room
