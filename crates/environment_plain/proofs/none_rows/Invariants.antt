-- `none_rows` goes through the inputs.
use Prim.Native.Nat.{◌<◌, ◌≤◌}
use mathlib.Core.Path.{◌≡◌}
use mathlib.Core.Bool.{true}
use Rattle.play.specs.Play.{separated_of}
use Rattle.theory.specs.Region.{region}
use Rattle.environment_table.specs.Table.{EnvironmentFilled}
use Rattle.environment_plain.proofs.none_rows.Given as goal

abbrev pub invariant-loop-i : goal.invariant-loop-i
invariant-loop-i l = (l.i ≤ l.n) × EnvironmentFilled l.g (λ a h b. (a < l.i) × (region (separated_of l.g) a b ≡ true)) l.initial.room l.room
