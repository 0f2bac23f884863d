-- `close` sweeps until a sweep adds nothing. Before each sweep the rows are at the stage of the sweeps that were counted, which are those that ran.
use Prim.Native.Nat.{◌≤◌, ◌-◌}
use mathlib.Core.Path.{◌≡◌}
use lib.ListN.{length}
use Rattle.sets.specs.Words.{capacity, sets_in}
use Rattle.game.specs.declared.Graph.{Graph}
use Rattle.graph_closure.specs.Sweep.{Given}
use Rattle.graph_closure.proofs.Counting.{Counted}
use Rattle.graph_closure.proofs.close.Given as goal

abbrev pub invariant-loop : goal.invariant-loop
invariant-loop l =
    (l.n ≤ capacity) × (length l.rows ≡ length l.initial.rows) × ((h : Graph) → Given h l.n l.moves → Counted h (sets_in l.initial.rows) (sets_in l.rows) l.sweeps)

abbrev pub decreases-loop : goal.decreases-loop
decreases-loop l = l.n - l.sweeps
