-- `sweep` goes through the rows in rising order, each from the rows as they are by then.
use Prim.Native.Nat.{◌≤◌}
use mathlib.Core.Path.{◌≡◌}
use lib.ListN.{length}
use Rattle.sets.specs.Words.{bits_of, sets_in}
use Rattle.graph_closure.specs.Sweep.{Fixed, Swept}
use Rattle.graph_closure.proofs.sweep.Given as goal

abbrev pub invariant-loop-s : goal.invariant-loop-s
invariant-loop-s l =
    (l.s ≤ l.n) × (length l.rows ≡ length l.initial.rows) × Swept l.n (sets_in l.initial.rows) l.s (sets_in l.rows) l.added × Fixed (sets_in l.rows) l.n (bits_of l.fixed)
