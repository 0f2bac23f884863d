-- `push_columns` goes through the outputs.
use Prim.Native.Nat.{◌<◌, ◌≤◌}
use mathlib.Core.Path.{◌≡◌}
use mathlib.Core.Bool.{true, false}
use Rattle.play.specs.Play.{separated_of}
use Rattle.theory.specs.Region.{region}
use Rattle.environment_table.specs.Table.{EnvironmentFilled}
use Rattle.environment_table.specs.Reading.{unwalked}
use Rattle.environment_plain.proofs.push_columns.Given as goal

abbrev pub invariant-loop-o : goal.invariant-loop-o
invariant-loop-o l =
    (l.o ≤ l.m) × EnvironmentFilled l.g (λ a k b. (b < l.o) × (unwalked l.g a b ≡ true) × (region (separated_of l.g) a b ≡ false)) l.initial.room l.room
