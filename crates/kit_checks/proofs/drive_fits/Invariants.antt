-- `drive_fits` looks at every mode.
use Prim.Native.Nat.{◌≤◌}
use mathlib.Core.Path.{◌≡◌}
use mathlib.Core.Bool.{true}
use Rattle.finite.specs.Bounded.{all}
use Rattle.sets.specs.Words.{capacity}
use Rattle.kit_drives.specs.Acceptance.{entry_fits}
use Rattle.kit_checks.proofs.drive_fits.Given as goal

abbrev pub invariant-loop-m : goal.invariant-loop-m
invariant-loop-m l = (l.m ≤ capacity) × (all l.m (λ j. all 16 (entry_fits l.d.next l.d.modes l.d.commands j)) ≡ true)
