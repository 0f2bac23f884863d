-- `output_rows` goes through the counters.
use Prim.Native.Nat.{◌≤◌}
use Rattle.kit_rows.specs.Writing.{commands_of, Lent}
use Rattle.kit_rows.proofs.Blocks.{Rounds}
use Rattle.kit_rows.proofs.output_rows.Given as goal

abbrev pub invariant-loop-c : goal.invariant-loop-c
invariant-loop-c l =
    (l.c ≤ l.counters) × Rounds l.old l.counters l.o (commands_of l.new.next l.from.commands l.from.mode) l.controller l.c l.initial.room l.room
    × Lent l.old.modes l.initial.kept l.kept
