-- `joined_high` takes in the rows of the members that are not low, one state after the other.
use Prim.Native.Nat.{ℕ, ◌≤◌}
use mathlib.Core.Path.{◌≡◌}
use Rattle.sets.specs.Words.{low_states, bits_of, sets_in}
use Rattle.graph_closure.specs.Sweep.{grown}
use Rattle.graph_closure.proofs.joined_high.Given as goal

abbrev pub invariant-loop-t : goal.invariant-loop-t
invariant-loop-t l =
    (low_states ≤ l.t) × (l.t ≤ l.n) × ((z : ℕ) → bits_of l.initial.y ≡ grown (sets_in l.rows) low_states z → bits_of l.y ≡ grown (sets_in l.rows) l.t z)
