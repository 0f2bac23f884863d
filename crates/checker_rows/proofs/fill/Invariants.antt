-- `fill` meets its contract.
use Prim.Native.Nat.{◌-◌, ◌≤◌}
use Rattle.checker_rows.specs.Rows.{Filled}
use Rattle.checker_rows.proofs.fill.Given as goal

abbrev pub invariant-loop-r : goal.invariant-loop-r
invariant-loop-r l = (l.r ≤ l.places) × Filled l.g l.table l.to l.r
