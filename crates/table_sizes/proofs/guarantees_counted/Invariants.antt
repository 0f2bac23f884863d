-- `guarantees_counted` adds up the counts, one requirement after the other.
use Prim.Native.Nat.{◌*◌, ◌≤◌}
use mathlib.Core.Path.{◌≡◌}
use lib.ListN.{length}
use Rattle.table_sizes.specs.Below.{guarantee_side, sets_below}
use Rattle.table_sizes.proofs.guarantees_counted.Given as goal

abbrev pub invariant-loop-r : goal.invariant-loop-r
invariant-loop-r l = (l.r ≤ l.fn.g.k) × (l.fn.g.k ≤ 8) × (l.n ≤ 4 * l.r) × (l.n ≡ length (sets_below guarantee_side l.fn.g l.r))
