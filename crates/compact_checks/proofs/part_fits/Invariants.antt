-- `part_fits` goes through the row numbers.
use Prim.Native.Nat.{◌≤◌}
use mathlib.Core.Path.{◌≡◌}
use mathlib.Core.Bool.{true}
use Rattle.compact_checks.specs.Parts.{part_fits}
use Rattle.compact_checks.proofs.part_fits.Given as goal

abbrev pub invariant-loop-x : goal.invariant-loop-x
invariant-loop-x l = (l.x ≤ l.rows) × (part_fits l.table l.firsts l.inputs l.x l.part l.count ≡ true)
