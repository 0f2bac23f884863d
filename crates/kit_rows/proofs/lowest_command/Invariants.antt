-- `lowest_command` stops at the first command that leads there.
use Prim.Native.Nat.{◌≤◌}
use mathlib.Core.Path.{◌≡◌}
use mathlib.Core.Bool.{false}
use Rattle.kit_drives.specs.Drive.{made_by}
use Rattle.kit_rows.proofs.lowest_command.Given as goal

abbrev pub invariant-loop-u : goal.invariant-loop-u
invariant-loop-u l = (l.u ≤ l.commands) × (made_by l.next l.u l.o l.t ≡ false)
