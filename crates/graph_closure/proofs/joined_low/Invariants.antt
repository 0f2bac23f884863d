-- `joined_low` takes in the rows of the members, one state after the other.
use Prim.Native.Nat.{◌≤◌}
use mathlib.Core.Path.{◌≡◌}
use Rattle.sets.specs.Words.{bits_of, sets_in}
use Rattle.graph_closure.specs.Sweep.{grown}
use Rattle.graph_closure.proofs.joined_low.Given as goal

abbrev pub invariant-loop-t : goal.invariant-loop-t
invariant-loop-t l = (l.t ≤ l.n) × (bits_of l.y ≡ grown (sets_in l.rows) l.t (bits_of l.initial.y))
