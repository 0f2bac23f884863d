-- `escapes` goes through the outputs, and writes the rows of the last group.
use Prim.Native.Nat.{◌≤◌}
use mathlib.Core.Path.{◌≡◌}
use Rattle.bits.specs.Member.{pack}
use Rattle.sets.specs.Words.{bits_of}
use Rattle.environment_table.specs.Table.{EnvironmentFilled}
use Rattle.environment_table.specs.Pressing.{touring_at}
use Rattle.environment_escape.specs.Gates.{Gated}
use Rattle.environment_escape.proofs.Leaving.{Passed}
use Rattle.environment_escape.proofs.escapes.Given as goal

abbrev pub invariant-loop-o : goal.invariant-loop-o
invariant-loop-o l =
    (l.o ≤ l.fn.g.output.states)
    × EnvironmentFilled l.fn.g (Passed l.fn.g l.part.first.0 l.o (bits_of l.group.gates.0) (bits_of l.group.outputs.0)) l.initial.room l.room
    × (bits_of l.touring ≡ pack l.o (touring_at l.fn.g l.part.first.0))
    × Gated l.fn.g l.part.first.0 (bits_of l.group.gates.0) (bits_of l.group.outputs.0)
