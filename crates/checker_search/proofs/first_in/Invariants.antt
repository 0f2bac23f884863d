-- `first_in` meets its contract.
use Prim.Native.Nat.{ℕ, ◌%◌, ◌≤◌, ◌<◌}
use Rattle.bits.specs.Member.{has}
use Rattle.sets.specs.Words.{bits_of}
use lib.ListN.{get_or}
use mathlib.Core.Bool.{false}
use mathlib.Core.Path.{◌≡◌}
use Rattle.checker_search.proofs.first_in.Given as goal

abbrev pub invariant-loop-k : goal.invariant-loop-k
invariant-loop-k l = (l.k ≤ l.n) × ((i : ℕ) → i < l.k → has (bits_of l.x) (get_or l.queue i 0 % l.inputs) ≡ false)
