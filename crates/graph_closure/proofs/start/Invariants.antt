-- `start` writes the rows one after the other.
use Prim.Native.Nat.{◌≤◌}
use mathlib.Core.Path.{◌≡◌}
use mathlib.Core.List.{◌++◌}
use lib.ListN.{length, drop}
use Rattle.sets.specs.Words.{sets_in}
use Rattle.graphs.specs.Rows.{rows_of}
use Rattle.graphs.specs.Closure.{nearby}
use Rattle.game.specs.declared.Graph.{Graph}
use Rattle.play.specs.Play.{graph_of}
use Rattle.graph_closure.specs.Sweep.{Given}
use Rattle.graph_closure.proofs.start.Given as goal

abbrev pub invariant-loop-s : goal.invariant-loop-s
invariant-loop-s l =
    (l.s ≤ l.n) × (length l.rows ≡ length l.initial.rows)
    × ((h : Graph) → Given h l.n l.moves → sets_in l.rows ≡ rows_of l.s h.states (nearby (graph_of h)) ++ drop l.s (sets_in l.initial.rows))
