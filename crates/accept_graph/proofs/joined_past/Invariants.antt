-- `joined_past` goes through the rows.
use Prim.Native.Nat.{◌≤◌, ◌-◌}
use Rattle.sets.specs.Words.{capacity, bits_of, sets_in}
use Rattle.accept_graph.specs.Past.{Past}
use Rattle.accept_graph.proofs.joined_past.Given as goal

abbrev pub invariant-loop-s : goal.invariant-loop-s
invariant-loop-s l = (l.n ≤ l.s) × Past (sets_in l.moves) l.n l.s (bits_of l.x)
