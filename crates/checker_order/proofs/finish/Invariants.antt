-- `finish` meets its contract.
use Prim.Native.Nat.{◌≤◌}
use mathlib.Core.Path.{◌≡◌}
use lib.ListN.{length}
use Rattle.checker_order.proofs.finish.Given as goal

abbrev pub invariant-loop-step : goal.invariant-loop-step
invariant-loop-step l =
    (l.top ≤ 4096) × (l.count ≤ 4096) × (length l.unseen ≡ length l.initial.unseen)
