-- `sources` meets its contract.
use Prim.Native.Nat.{◌≤◌}
use Rattle.checker_order.proofs.sources.Given as goal

abbrev pub invariant-loop-i : goal.invariant-loop-i
invariant-loop-i l = l.i ≤ l.inputs
