-- `seek_all` goes through the requirements.
use Prim.Native.Nat.{◌-◌, ◌≤◌}
use Rattle.sets.specs.Words.{bits_of}
use Rattle.table_sizes.specs.Below.{guarantee_side}
use Rattle.table_sizes.specs.Numbered.{Upto}
use Rattle.controller_tour.proofs.Courses.{Toured}
use Rattle.controller_tour.proofs.seek_all.Given as goal

abbrev pub invariant-loop-r : goal.invariant-loop-r
invariant-loop-r l =
    (l.r ≤ l.g.k) × (l.g.k ≤ 8) × Upto guarantee_side l.g l.r l.n × Toured l.g l.y (bits_of l.component.0) (bits_of l.over.0) l.q.0 l.n l.initial.room l.room
