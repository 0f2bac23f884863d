-- `mode_fits` looks at every command's place.
use Prim.Native.Nat.{◌≤◌}
use mathlib.Core.Path.{◌≡◌}
use mathlib.Core.Bool.{true}
use Rattle.finite.specs.Bounded.{all}
use Rattle.kit_drives.specs.Acceptance.{entry_fits}
use Rattle.kit_checks.proofs.mode_fits.Given as goal

abbrev pub invariant-loop-u : goal.invariant-loop-u
invariant-loop-u l = (l.u ≤ 16) × (all l.u (entry_fits l.next l.modes l.commands l.m) ≡ true)
