-- `walked_rows` goes through the numbers of components.
use Prim.Native.Nat.{◌<◌, ◌≤◌}
use mathlib.Core.Path.{◌≡◌}
use mathlib.Core.Bool.{false}
use Rattle.graphs.specs.Component.{number}
use Rattle.play.specs.Play.{graph_of}
use Rattle.environment_table.specs.Table.{EnvironmentFilled}
use Rattle.sets.specs.Words.{bits_of}
use Rattle.environment_table.specs.Pressing.{Ahead}
use Rattle.environment_table.specs.Reading.{plain}
use Rattle.environment.proofs.walked_rows.Given as goal

abbrev pub invariant-loop-i : goal.invariant-loop-i
invariant-loop-i l =
    (l.i ≤ l.n) × EnvironmentFilled l.g (λ a h b. (number (graph_of l.g.input) a < l.i) × (plain l.g a b ≡ false)) l.initial.room l.room
    × Ahead l.g l.i (bits_of l.ahead.0)
