-- `first_at` meets its contract.
use Prim.Native.Nat.{ℕ, ◌≤◌, ◌<◌}
use lib.ListN.{get_or}
use mathlib.Core.Logic.{◌≢◌}
use Rattle.checker_search.proofs.first_at.Given as goal

abbrev pub invariant-loop-k : goal.invariant-loop-k
invariant-loop-k l = (l.k ≤ l.n) × ((i : ℕ) → i < l.k → get_or l.queue i 0 ≢ l.v)
