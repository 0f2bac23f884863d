-- `row_fits` goes through the inputs.
use Prim.Native.Nat.{◌≤◌}
use mathlib.Core.Path.{◌≡◌}
use Rattle.compact_checks.specs.Parts.{row_agrees}
use Rattle.compact_checks.proofs.row_fits.Given as goal

abbrev pub invariant-loop-k : goal.invariant-loop-k
invariant-loop-k l = (l.k ≤ l.count) × (l.same ≡ row_agrees l.table l.firsts l.row l.part l.k)
